-- A right that is spent: the locks of its readers have another kind, and all else of them stays.
use Rattle.std.proofs.Common.{◌≡◌, ℕ, ◌==◌, ◌||◌, Bool, true, false, List, [], ◌∷◌, Option, Some, None, is_some, IfSome, refl, ap, sym, subst, ◌∙◌, arith}
use Rattle.std.proofs.lemmas.List.Elements.{All-nil, All-head, All-tail, All-weaker}
use Rattle.std.specs.Prelude.{option_map}
use Rattle.std.specs.List.{All}
use Rattle.pcl_base.specs.Limits.{Sizes}
use Rattle.pcl_base.specs.declared.tx.TxId.{TxId}
use Rattle.pcl_base.specs.declared.lock.Held.{Held}
use Rattle.pcl_base.specs.declared.lock.Kind.{Kind}
use Rattle.pcl_base.specs.declared.lock.Kind.TheVariants as kind
use Rattle.pcl_base.specs.declared.lock.Pending.{Pending}
use Rattle.node_rules.specs.Words.{same_tx, among, covers, is_exclusive}
use Rattle.node_rules.specs.OpenTxs.{OpenTx, OpenTxs, is_open, open_at, pages_of_open, waiting_of_open, held_by, pending_of, lock_on, mode_held, waits_on, set_kind}
use Rattle.node_rules.specs.Shelf.{Right, right_on, readers_of, spend}
use Rattle.node_rules.specs.NodeState.{HomeState, runs_at}
use Rattle.node_rules.specs.AccessRule.{kinds_on, spend_right, on_revoke, answer_with}
use Rattle.home_laws.specs.Homes.{IsHome, AreOpen, AreWrittenRuns, IsAccess, users, is_exclusive_lock, is_right_lock, is_right_kind, is_write_of}
use Rattle.home_laws.specs.AccessLaws.{OnRevokeIsSound}
use Rattle.home_laws.proofs.Tests.{one, number_equal, tx_equal}
use Rattle.home_laws.proofs.OneTx.{open_here}
use Rattle.home_laws.proofs.Locks.{with_kind, with_kind_on, held_open, kind_held_here, kind_held_elsewhere, kind_pending, kind_other, kind_sound}
use Rattle.home_laws.proofs.Users.{used_by, users_changed}
use Rattle.home_laws.proofs.Rights.{spent_here, spent_there}

-- open transactions that differ in the kinds of locks alone, of which no more are under a right
pub record SameButKinds (s new : OpenTxs) : Type 0 where
  pub sound : (c : Sizes) → AreOpen c s → AreOpen c new
  pub there : (u : TxId) → is_open new u ≡ is_open s u
  pub pending : (u : TxId) → pending_of new u ≡ pending_of s u
  pub modes : (u : TxId) (q : ℕ) → mode_held (held_by new u q) ≡ mode_held (held_by s u q)
  pub users : (c : Sizes) (q : ℕ) → AreOpen c s → users new q ≡ users s q
  pub rights : (u : TxId) (q : ℕ) → is_right_lock (held_by new u q) ≡ true → is_right_lock (held_by s u q) ≡ true

pub some_of_mode : (o : Option Held) → is_some o ≡ is_some (mode_held o)
some_of_mode None = refl
some_of_mode (Some h) = refl

exclusive_of : Option Held → Option Held → Type 0
exclusive_of a b = is_exclusive_lock a ≡ is_exclusive_lock b

pub exclusive_by_mode : (a b : Option Held) → mode_held a ≡ mode_held b → is_exclusive_lock a ≡ is_exclusive_lock b
exclusive_by_mode None None e = refl
exclusive_by_mode None (Some h) e = absurd (cc)
exclusive_by_mode (Some g) None e = absurd (cc)
exclusive_by_mode (Some g) (Some h) e = let same : g.mode ≡ h.mode = cc in ap is_exclusive same

pub some_by_mode : (a b : Option Held) → mode_held a ≡ mode_held b → is_some a ≡ is_some b
some_by_mode a b e = some_of_mode a ∙ ap is_some e ∙ sym (some_of_mode b)

mode_kept : (k : Kind) (o : Option Held) → mode_held (option_map (with_kind k) o) ≡ mode_held o
mode_kept k None = refl
mode_kept k (Some h) = refl

no_right : (k : Kind) (o : Option Held) → is_right_kind k ≡ false → is_right_lock (option_map (with_kind k) o) ≡ false
no_right k None e = refl
no_right k (Some h) e = e

module _ (s : OpenTxs) (t : TxId) (p : ℕ) (k : Kind) (there : is_open s t ≡ true) (other : is_right_kind k ≡ false) where
  modes_here : (q : ℕ) → mode_held (held_by (set_kind s t p k) t q) ≡ mode_held (held_by s t q)
  modes_here q = by (p == q) refl
    where
      by : (b : Bool) → (p == q) ≡ b → mode_held (held_by (set_kind s t p k) t q) ≡ mode_held (held_by s t q)
      by true e =
          let same = number_equal p q e in
          subst (λ n. mode_held (held_by (set_kind s t p k) t n) ≡ mode_held (held_by s t n)) same (ap mode_held (kind_held_here s t p k there) ∙ mode_kept k (held_by s t p))
      by false e = ap mode_held (kind_held_elsewhere s t p k there q e)

  rights_here : (q : ℕ) → is_right_lock (held_by (set_kind s t p k) t q) ≡ true → is_right_lock (held_by s t q) ≡ true
  rights_here q right = by (p == q) refl
    where
      by : (b : Bool) → (p == q) ≡ b → is_right_lock (held_by s t q) ≡ true
      by true e =
          let same = number_equal p q e in
          let no : is_right_lock (held_by (set_kind s t p k) t p) ≡ false = ap is_right_lock (kind_held_here s t p k there) ∙ no_right k (held_by s t p) other in
          let yes : is_right_lock (held_by (set_kind s t p k) t p) ≡ true = subst (λ n. is_right_lock (held_by (set_kind s t p k) t n) ≡ true) (sym same) right in
          absurd (cc)
      by false e = ap is_right_lock (sym (kind_held_elsewhere s t p k there q e)) ∙ right

  -- one lock of another kind
  pub one_kind : SameButKinds s (set_kind s t p k)
  unfolding set_kind
  one_kind = record {
    sound = λ c sound. kind_sound s t p k there c sound;
    there = λ u. open_by u (same_tx u t) refl;
    pending = λ u. pending_by u (same_tx u t) refl;
    modes = λ u q. modes_by u q (same_tx u t) refl;
    users = λ c q sound.
        let count = users_changed (with_kind_on p k) (λ x. refl) c s t q sound there in
        let held : is_some (held_by (set_kind s t p k) t q) ≡ is_some (held_by s t q) = some_by_mode (held_by (set_kind s t p k) t q) (held_by s t q) (modes_here q) in
        let use_same : one (used_by (set_kind s t p k) t q) ≡ one (used_by s t q) =
        ap (λ b. one (b || waits_on (pending_of (set_kind s t p k) t) q)) held ∙ ap (λ w. one (is_some (held_by s t q) || waits_on w q)) (kind_pending s t p k there) in
        omega (arith, count, use_same);
    rights = λ u q right. rights_by u q right (same_tx u t) refl;
  }
    where
      open_by : (u : TxId) (b : Bool) → same_tx u t ≡ b → is_open (set_kind s t p k) u ≡ is_open s u
      open_by u true e = subst (λ v. is_open (set_kind s t p k) v ≡ is_open s v) (sym (tx_equal u t e)) (ap is_some (open_here (with_kind_on p k) (λ x. refl) s t) ∙ mapped (open_at s t))
        where
          mapped : (o : Option OpenTx) → is_some (option_map (with_kind_on p k) o) ≡ is_some o
          mapped None = refl
          mapped (Some x) = refl
      open_by u false e = ap is_some (kind_other s t p k there u e)

      pending_by : (u : TxId) (b : Bool) → same_tx u t ≡ b → pending_of (set_kind s t p k) u ≡ pending_of s u
      pending_by u true e = subst (λ v. pending_of (set_kind s t p k) v ≡ pending_of s v) (sym (tx_equal u t e)) (kind_pending s t p k there)
      pending_by u false e = ap waiting_of_open (kind_other s t p k there u e)

      modes_by : (u : TxId) (q : ℕ) (b : Bool) → same_tx u t ≡ b → mode_held (held_by (set_kind s t p k) u q) ≡ mode_held (held_by s u q)
      modes_by u q true e = subst (λ v. mode_held (held_by (set_kind s t p k) v q) ≡ mode_held (held_by s v q)) (sym (tx_equal u t e)) (modes_here q)
      modes_by u q false e = ap (λ o. mode_held (lock_on (pages_of_open o) q)) (kind_other s t p k there u e)

      rights_by : (u : TxId) (q : ℕ) → is_right_lock (held_by (set_kind s t p k) u q) ≡ true → (b : Bool) → same_tx u t ≡ b → is_right_lock (held_by s u q) ≡ true
      rights_by u q right true e =
          let same = tx_equal u t e in
          subst (λ v. is_right_lock (held_by s v q) ≡ true) (sym same) (rights_here q (subst (λ v. is_right_lock (held_by (set_kind s t p k) v q) ≡ true) same right))
      rights_by u q right false e = ap (λ o. is_right_lock (lock_on (pages_of_open o) q)) (sym (kind_other s t p k there u e)) ∙ right

  pub right_gone : is_right_lock (held_by (set_kind s t p k) t p) ≡ false
  right_gone = ap is_right_lock (kind_held_here s t p k there) ∙ no_right k (held_by s t p) other

same_self : (s : OpenTxs) → SameButKinds s s
same_self s = record { sound = λ c h. h; there = λ u. refl; pending = λ u. refl; modes = λ u q. refl; users = λ c q h. refl; rights = λ u q h. h }

then : (s mid new : OpenTxs) → SameButKinds s mid → SameButKinds mid new → SameButKinds s new
then s mid new a b = record {
  sound = λ c h. b.sound c (a.sound c h);
  there = λ u. b.there u ∙ a.there u;
  pending = λ u. b.pending u ∙ a.pending u;
  modes = λ u q. b.modes u q ∙ a.modes u q;
  users = λ c q h. b.users c q (a.sound c h) ∙ a.users c q h;
  rights = λ u q h. a.rights u q (b.rights u q h);
}

-- the locks of some transactions
pub all_kinds_same : (s : OpenTxs) (ts : List TxId) (p : ℕ) (k : Kind) → is_right_kind k ≡ false → All (λ t. is_open s t ≡ true) ts → SameButKinds s (kinds_on s ts p k)
unfolding kinds_on
all_kinds_same s [] p k other all = same_self s
all_kinds_same s (t ∷ ts) p k other all =
    let now = one_kind s t p k (All-head (λ t. is_open s t ≡ true) t ts all) other in
    let left : All (λ t. is_open (set_kind s t p k) t ≡ true) [] = All-nil (λ t. is_open (set_kind s t p k) t ≡ true) in
    then s (set_kind s t p k) (kinds_on (set_kind s t p k) ts p k) now
    (all_kinds_same (set_kind s t p k) ts p k other
    (All-weaker (λ u. is_open s u ≡ true) (λ u. is_open (set_kind s t p k) u ≡ true) (λ u h. now.there u ∙ h) ts (All-tail (λ t. is_open s t ≡ true) t ts all)))

pub none_by_right : (s : OpenTxs) (ts : List TxId) (p : ℕ) (k : Kind) → is_right_kind k ≡ false → All (λ t. is_open s t ≡ true) ts → (u : TxId) → among ts u ≡ true → is_right_lock (held_by (kinds_on s ts p k) u p) ≡ false
unfolding kinds_on among
none_by_right s [] p k other all u there = absurd (cc)
none_by_right s (t ∷ ts) p k other all u there = by (same_tx t u) refl (is_right_lock (held_by (kinds_on (set_kind s t p k) ts p k) u p)) refl there (none_by_right (set_kind s t p k) ts p k other later u)
  where
    now : SameButKinds s (set_kind s t p k)
    now = one_kind s t p k (All-head (λ t. is_open s t ≡ true) t ts all) other

    later : All (λ v. is_open (set_kind s t p k) v ≡ true) ts
    later = All-weaker (λ v. is_open s v ≡ true) (λ v. is_open (set_kind s t p k) v ≡ true) (λ v h. now.there v ∙ h) ts (All-tail (λ t. is_open s t ≡ true) t ts all)

    by : (b : Bool) → same_tx t u ≡ b → (r : Bool) → is_right_lock (held_by (kinds_on (set_kind s t p k) ts p k) u p) ≡ r → b || among ts u ≡ true
        → (among ts u ≡ true → is_right_lock (held_by (kinds_on (set_kind s t p k) ts p k) u p) ≡ false) → is_right_lock (held_by (kinds_on (set_kind s t p k) ts p k) u p) ≡ false
    by b e false r h ih = r
    by false e true r h ih = ih h
    by true e true r h ih =
        let kept = (all_kinds_same (set_kind s t p k) ts p k other later).rights u p r in
        let no : is_right_lock (held_by (set_kind s t p k) u p) ≡ false = subst (λ v. is_right_lock (held_by (set_kind s t p k) v p) ≡ false) (tx_equal t u e) (right_gone s t p k (All-head (λ t. is_open s t ≡ true) t ts all) other) in
        absurd (cc)

-- a right is spent
pub spend_right_sound : (k : Kind) (p : ℕ) (h : HomeState) → is_right_kind k ≡ false → IsHome h → IsHome (spend_right k p h)
spend_right_sound k p h other home = record {
  buffer = home.buffer;
  sizes = home.sizes;
  txs = same.sound h.config home.txs;
  pins = λ q. home.pins q ∙ sym (same.users h.config q home.txs);
  kept = home.kept;
  below = home.below;
  held = λ t q e. home.held t q (sym (held t q) ∙ e);
  waits = λ t. subst (λ o. IfSome o (IsAccess h.config)) (sym (same.pending t)) (home.waits t);
  needed = λ t. subst (λ o. IfSome o (λ w. covers (mode_held (held_by new t w.page)) w.mode ≡ false)) (sym (same.pending t)) (needed t (pending_of h.txs t) (home.needed t));
  privates = λ t q. home.privates t q ∙ ap (λ b. b || is_write_of (pending_of h.txs t) q) (sym (exclusive t q)) ∙ ap (λ w. is_exclusive_lock (held_by new t q) || is_write_of w q) (sym (same.pending t));
  filled = λ t q. home.filled t q ∙ sym (exclusive t q);
  runs = λ t q. subst (λ b. AreWrittenRuns h.config.size b (runs_at h.written t q)) (sym (exclusive t q)) (home.runs t q);
  readers = λ q. readers q (p == q) refl;
  reading = λ t q right. reading t q right (p == q) refl;
}
  where
    readers_were : List TxId
    readers_were = readers_of (right_on h.shelf p)

    new : OpenTxs
    new = kinds_on h.txs readers_were p k

    are_open : All (λ t. is_open h.txs t ≡ true) readers_were
    are_open = All-weaker (λ t. is_some (held_by h.txs t p) ≡ true) (λ t. is_open h.txs t ≡ true) (λ t e. held_open h.txs t p e) readers_were (home.readers p)

    same : SameButKinds h.txs new
    same = all_kinds_same h.txs readers_were p k other are_open

    held : (t : TxId) (q : ℕ) → is_some (held_by new t q) ≡ is_some (held_by h.txs t q)
    held t q = some_by_mode (held_by new t q) (held_by h.txs t q) (same.modes t q)

    exclusive : (t : TxId) (q : ℕ) → is_exclusive_lock (held_by new t q) ≡ is_exclusive_lock (held_by h.txs t q)
    exclusive t q = exclusive_by_mode (held_by new t q) (held_by h.txs t q) (same.modes t q)

    needed : (t : TxId) (o : Option Pending) → IfSome o (λ w. covers (mode_held (held_by h.txs t w.page)) w.mode ≡ false) → IfSome o (λ w. covers (mode_held (held_by new t w.page)) w.mode ≡ false)
    needed t None e = tt
    needed t (Some w) e = ap (λ m. covers m w.mode) (same.modes t w.page) ∙ e

    readers : (q : ℕ) (b : Bool) → (p == q) ≡ b → All (λ t. is_some (held_by new t q) ≡ true) (readers_of (right_on (spend h.shelf p) q))
    readers q true e =
        let none : right_on (spend h.shelf p) q ≡ None = subst (λ n. right_on (spend h.shelf p) n ≡ None) (number_equal p q e) (spent_here h.shelf p) in
        subst (λ o. All (λ t. is_some (held_by new t q) ≡ true) (readers_of o)) (sym none) (All-nil (λ t. is_some (held_by new t q) ≡ true))
    readers q false e =
        subst (λ o. All (λ t. is_some (held_by new t q) ≡ true) (readers_of o)) (sym (spent_there h.shelf p q e))
        (All-weaker (λ t. is_some (held_by h.txs t q) ≡ true) (λ t. is_some (held_by new t q) ≡ true) (λ t x. held t q ∙ x) (readers_of (right_on h.shelf q)) (home.readers q))

    reading : (t : TxId) (q : ℕ) → is_right_lock (held_by new t q) ≡ true → (b : Bool) → (p == q) ≡ b → among (readers_of (right_on (spend h.shelf p) q)) t ≡ true
    reading t q right true e =
        let page = number_equal p q e in
        let right_p : is_right_lock (held_by new t p) ≡ true = subst (λ n. is_right_lock (held_by new t n) ≡ true) (sym page) right in
        let there = home.reading t p (same.rights t p right_p) in
        let no = none_by_right h.txs readers_were p k other are_open t there in
        absurd (cc)
    reading t q right false e = ap (λ o. among (readers_of o) t) (spent_there h.shelf p q e) ∙ home.reading t q (same.rights t q right)

-- a revocation
pub on_revoke_sound : OnRevokeIsSound
unfolding on_revoke
on_revoke_sound p h home = by (right_on h.shelf p)
  where
    by : (o : Option Right) → IsHome (answer_with p o h).home
    by None = home
    by (Some r) = spend_right_sound kind.Registered p h refl home
