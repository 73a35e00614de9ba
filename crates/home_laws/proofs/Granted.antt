-- A grant of what a transaction waits for keeps the home sound, and so does one that nobody waits for.
use Rattle.std.proofs.Common.{◌≡◌, ℕ, ◌<◌, ◌≤◌, ◌==◌, ◌&&◌, ◌||◌, Bool, true, false, List, Option, Some, None, is_some, IfSome, refl, ap, sym, subst, ◌∙◌, arith}
use Rattle.std.proofs.lemmas.List.Elements.{All-weaker}
use Rattle.std.specs.List.{All}
use Rattle.pcl_base.specs.declared.tx.TxId.{TxId}
use Rattle.pcl_base.specs.declared.tx.Mode.{Mode}
use Rattle.pcl_base.specs.declared.tx.Mode.TheVariants.{Shared, Exclusive}
use Rattle.pcl_base.specs.declared.lock.Held.{Held}
use Rattle.pcl_base.specs.declared.lock.Pending.{Pending}
use Rattle.node_rules.specs.Words.{pick, among, covers, is_exclusive, same_mode}
use Rattle.node_rules.specs.OpenTxs.{OpenTxs, is_open, held_by, pending_of, lock_on, pages_of_open, mode_held, waits_on, waits_as, add}
use Rattle.node_rules.specs.Shelf.{Right, right_on, readers_of}
use Rattle.node_rules.specs.NodeState.{HomeState, runs_at}
use Rattle.node_rules.specs.BufferRule.{Pool, Slot, slot_at, has_private, private_in, private_bytes, bytes_of_private}
use Rattle.node_rules.specs.Work.{HomeWork, Outcome, Goes, Differs, and_so, with_pool}
use Rattle.node_rules.specs.AccessRule.{Granted, mode_of_write, perform, bring, locked, write_of, granted}
use Rattle.buffer_pool.specs.Buffer.{IsBuffer}
use Rattle.home_laws.specs.Homes.{IsHome, AreWrittenRuns, IsAccess, IsWithin, users, pins_of, is_exclusive_lock, is_right_lock, is_right_kind, is_write_of}
use Rattle.home_laws.specs.AccessLaws.{IsImage, IsReadable, GrantedIsSound}
use Rattle.home_laws.proofs.Tests.{one, number_same, number_equal, and_left, and_right}
use Rattle.home_laws.proofs.Locks.{add_here, add_elsewhere, add_pending, add_other, add_sound, pending_open}
use Rattle.home_laws.proofs.Users.{used_by, waits_used, add_users, or_right}
use Rattle.home_laws.proofs.Steps.{IsBase, after, each_place}
use Rattle.home_laws.proofs.Performed.{performed, MayPerform}
use Rattle.home_laws.proofs.Brought.{IsBrought, HasBrought, bring_is}
use Rattle.home_laws.proofs.Covering.{uncovered_exclusive}

mode_same : (m n : Mode) → same_mode m n ≡ true → is_exclusive m ≡ is_exclusive n
mode_same Shared Shared e = refl
mode_same Shared Exclusive e = absurd (cc)
mode_same Exclusive Shared e = absurd (cc)
mode_same Exclusive Exclusive e = refl

write_mode : (write : Option (ℕ × List ℕ)) → is_exclusive (mode_of_write write) ≡ is_some write
write_mode None = refl
write_mode (Some write) = refl

or_false : (d : Bool) → (d || false) ≡ d
or_false true = refl
or_false false = refl

-- an access that waits, and is granted by a lock
pub record IsAwaited (h : HomeState) (t : TxId) (l : Held) : Type 0 where
  pub access : Pending
  pub waits : pending_of h.txs t ≡ Some access
  pub page : access.page ≡ l.page
  pub mode : is_exclusive l.mode ≡ is_some access.write
  pub may : IsAccess h.config access
  pub uncovered : covers (mode_held (held_by h.txs t l.page)) access.mode ≡ false

pub awaited : (h : HomeState) (t : TxId) (l : Held) → IsHome h → waits_as (pending_of h.txs t) l.page l.mode ≡ true → IsAwaited h t l
awaited h t l home waits = by (pending_of h.txs t) refl waits (home.waits t) (home.needed t)
  where
    by : (o : Option Pending) → pending_of h.txs t ≡ o → waits_as o l.page l.mode ≡ true → IfSome o (IsAccess h.config) → IfSome o (λ w. covers (mode_held (held_by h.txs t w.page)) w.mode ≡ false) → IsAwaited h t l
    by None e f may needed = absurd (cc)
    by (Some w) e f may needed =
        let page = number_equal w.page l.page (and_left (w.page == l.page) (same_mode w.mode l.mode) f) in
        let same = mode_same w.mode l.mode (and_right (w.page == l.page) (same_mode w.mode l.mode) f) in
        record {
          access = w;
          waits = e;
          page = page;
          mode = sym same ∙ ap is_exclusive may.mode ∙ write_mode w.write;
          may = may;
          uncovered = subst (λ n. covers (mode_held (held_by h.txs t n)) w.mode ≡ false) page needed;
        }

-- what has to hold of the rights at the grant of a lock
pub record AreReaders (s : OpenTxs) (shelf : List Right) : Type 0 where
  pub readers : (q : ℕ) → All (λ u. is_some (held_by s u q) ≡ true) (readers_of (right_on shelf q))
  pub reading : (u : TxId) (q : ℕ) → is_right_lock (held_by s u q) ≡ true → among (readers_of (right_on shelf q)) u ≡ true

module _ (h : HomeState) (t : TxId) (l : Held) (home : IsHome h) (is : IsAwaited h t l) where
  pub there : is_open h.txs t ≡ true
  there = pending_open h.txs t (ap is_some is.waits)

  abbrev pub locked_txs : OpenTxs
  locked_txs = add h.txs t l

  waits_here : waits_on (pending_of h.txs t) l.page ≡ true
  waits_here = ap (λ w. waits_on w l.page) is.waits ∙ ap (λ n. n == l.page) is.page ∙ number_same l.page

  waits_there : (q : ℕ) → (l.page == q) ≡ false → waits_on (pending_of h.txs t) q ≡ false
  waits_there q other = ap (λ w. waits_on w q) is.waits ∙ ap (λ n. n == q) is.page ∙ other

  pending_after : pending_of locked_txs t ≡ None
  pending_after = add_pending h.txs t l there ∙ ap (λ c. pick c None (pending_of h.txs t)) waits_here

  no_exclusive : is_exclusive_lock (held_by h.txs t l.page) ≡ false
  no_exclusive = uncovered_exclusive (held_by h.txs t l.page) is.access.mode is.uncovered

  lock_now : held_by locked_txs t l.page ≡ Some l
  lock_now = add_here h.txs t l there

  -- the slot of the page is there
  pub slot_there : is_some (slot_at h.pool l.page) ≡ true
  slot_there = some (slot_at h.pool l.page) (subst (λ n. 1 ≤ n) (sym (home.pins l.page)) (waits_used h.txs t l.page waits_here))
    where
      some : (o : Option Slot) → 1 ≤ pins_of o → is_some o ≡ true
      some None le = absurd (omega (arith, le))
      some (Some x) le = refl

  -- as many use each page
  users_same : (q : ℕ) → users h.txs q ≡ users locked_txs q
  users_same q = by (l.page == q) refl
    where
      by : (d : Bool) → (l.page == q) ≡ d → users h.txs q ≡ users locked_txs q
      by true e =
          let count = add_users h.config h.txs t l l.page home.txs there in
          let old : one (used_by h.txs t l.page) ≡ 1 = ap one (or_right (is_some (held_by h.txs t l.page)) (waits_on (pending_of h.txs t) l.page) waits_here) in
          let new : one (used_by locked_txs t l.page) ≡ 1 = ap (λ o. one (is_some o || waits_on (pending_of locked_txs t) l.page)) lock_now in
          subst (λ n. users h.txs n ≡ users locked_txs n) (number_equal l.page q e) (omega (arith, count, old, new))
      by false e =
          let count = add_users h.config h.txs t l q home.txs there in
          let used : one (used_by locked_txs t q) ≡ one (used_by h.txs t q) =
          ap (λ o. one (is_some o || waits_on (pending_of locked_txs t) q)) (add_elsewhere h.txs t l there q e)
          ∙ ap (λ w. one (is_some (held_by h.txs t q) || waits_on w q)) pending_after ∙ ap (λ c. one (is_some (held_by h.txs t q) || c)) (sym (waits_there q e)) in
          omega (arith, count, used)

  other_write : (q : ℕ) → (l.page == q) ≡ false → is_write_of (pending_of locked_txs t) q ≡ is_write_of (pending_of h.txs t) q
  other_write q e =
      ap (λ w. is_write_of w q) pending_after
      ∙ sym (ap (λ w. is_write_of w q) is.waits ∙ ap (λ n. n == q && is_some is.access.write) is.page ∙ ap (λ d. d && is_some is.access.write) e)

  -- what was held is held
  pub still_held : (u : TxId) (q : ℕ) → is_some (held_by h.txs u q) ≡ true → is_some (held_by locked_txs u q) ≡ true
  still_held =
      each_place t l.page (λ u q. is_some (held_by h.txs u q) ≡ true → is_some (held_by locked_txs u q) ≡ true)
      (λ e. ap is_some lock_now) (λ q other e. ap is_some (add_elsewhere h.txs t l there q other) ∙ e)
      (λ u q other e. ap (λ o. is_some (lock_on (pages_of_open o) q)) (add_other h.txs t l there u other) ∙ e)

  module _ (b : Pool) (brought : IsBrought l.page h.pool b) (shelf : List Right) (rights : AreReaders locked_txs shelf) where
    has_write : has_private b t l.page ≡ is_some is.access.write
    has_write =
        ap (λ xs. is_some (private_in xs t l.page)) brought.privates ∙ home.privates t l.page ∙ ap (λ d. d || is_write_of (pending_of h.txs t) l.page) no_exclusive
        ∙ ap (λ w. is_write_of w l.page) is.waits ∙ ap (λ n. n == l.page && is_some is.access.write) is.page ∙ ap (λ d. d && is_some is.access.write) (number_same l.page)

    unfilled_yet : is_some (private_bytes b t l.page) ≡ false
    unfilled_yet = ap (λ xs. is_some (bytes_of_private (private_in xs t l.page))) brought.privates ∙ home.filled t l.page ∙ no_exclusive

    grant_base : IsBase h t l.page locked_txs b shelf
    grant_base = record {
      page = subst (λ n. n < h.config.pages) is.page is.may.page;
      buffer = brought.buffer;
      sizes = (brought.frames ∙ home.sizes.0, brought.size ∙ home.sizes.1);
      txs = add_sound h.txs t l there h.config home.txs;
      pins = λ q. brought.pins q ∙ home.pins q ∙ users_same q;
      kept = brought.kept home.kept;
      below = brought.below h.config.pages home.below;
      others = λ u e. add_other h.txs t l there u e;
      locks = λ q e. add_elsewhere h.txs t l there q e;
      writes = other_write;
      copies = λ q some e. brought.copies q e;
      copy = λ e. brought.there;
      waits = subst (λ o. IfSome o (IsAccess h.config)) (sym pending_after) tt;
      needed = subst (λ o. IfSome o (λ w. covers (mode_held (held_by locked_txs t w.page)) w.mode ≡ false)) (sym pending_after) tt;
      other_private = λ u q e. ap (λ xs. is_some (private_in xs u q)) brought.privates;
      other_filled = λ u q e. ap (λ xs. is_some (bytes_of_private (private_in xs u q))) brought.privates;
      private =
          has_write ∙ sym is.mode ∙ sym (or_false (is_exclusive l.mode))
          ∙ sym (ap (λ o. is_exclusive_lock o || is_write_of (pending_of locked_txs t) l.page) lock_now ∙ ap (λ w. is_exclusive l.mode || is_write_of w l.page) pending_after);
      readers = rights.readers;
      reading = rights.reading;
    }

    may_perform : (write : Option (ℕ × List ℕ)) → is.access.write ≡ write → MayPerform h t l.page write locked_txs b
    may_perform None e =
        let locked : is_exclusive_lock (held_by locked_txs t l.page) ≡ false = ap is_exclusive_lock lock_now ∙ is.mode ∙ ap is_some e in
        (unfilled_yet ∙ sym locked, subst (λ d. AreWrittenRuns h.config.size d (runs_at h.written t l.page)) (no_exclusive ∙ sym locked) (home.runs t l.page))
    may_perform (Some write) e =
        (ap is_exclusive_lock lock_now ∙ is.mode ∙ ap is_some e, subst (λ w. IfSome w (IsWithin h.config.size)) e is.may.inside)

    pub grant_sound : (w : HomeWork) → IsHome (perform t l.page (write_of (pending_of h.txs t)) (record w { home = after h locked_txs b shelf h.written })).work.home
    grant_sound w =
        subst (λ o. IsHome (perform t l.page (write_of o) (record w { home = after h locked_txs b shelf h.written })).work.home) (sym is.waits)
        (performed h t l.page is.access.write locked_txs b shelf w home grant_base brought.there (may_perform is.access.write refl))

-- a grant under other rights, which suit the open transactions with its lock
pub granted_with : (h : HomeState) (shelf : List Right) (t : TxId) (l : Held) (version : ℕ) (image : Option (List ℕ)) (w : HomeWork) (g : Granted) → IsHome h → w.home ≡ record h { shelf = shelf }
    → waits_as (pending_of h.txs t) l.page l.mode ≡ true → AreReaders (add h.txs t l) shelf → IsImage h.config.size image → IsReadable l.page version image w
    → granted t l version image w ≡ Goes g → IsHome g.work.home
unfolding granted
granted_with h shelf t l version image w g home same waits rights sized readable goes = by (bring l.page version image w) refl goes
  where
    is : IsAwaited h t l
    is = awaited h t l home waits

    goes_same : (x : Granted) → IsHome x.work.home → (let o : Outcome Granted = Goes x in o) ≡ Goes g → IsHome g.work.home
    goes_same x sound e =
        let equal : x ≡ g = cc in
        subst (λ (y : Granted). IsHome y.work.home) equal sound

    done_sound : (done : HomeWork) → HasBrought l.page w done → IsHome (locked t l (write_of (pending_of w.home.txs t)) done).work.home
    done_sound done has =
        let pool_same : w.home.pool ≡ h.pool = ap (λ (x : HomeState). x.pool) same in
        let txs_same : w.home.txs ≡ h.txs = ap (λ (x : HomeState). x.txs) same in
        let brought : IsBrought l.page h.pool has.pool = subst (λ b. IsBrought l.page b has.pool) pool_same has.brought in
        let home_is : done.home ≡ with_pool (record h { shelf = shelf }) has.pool = has.home ∙ ap (λ (x : HomeState). with_pool x has.pool) same in
        subst (λ s. IsHome (locked t l (write_of (pending_of s t)) done).work.home) (sym txs_same)
        (subst (λ (x : HomeState). IsHome (locked t l (write_of (pending_of h.txs t)) (record done { home = x })).work.home) (sym home_is)
        (grant_sound h t l home is has.pool brought shelf rights done))

    brought_by : (done : HomeWork) → bring l.page version image w ≡ Goes done → HasBrought l.page w done
    brought_by done e =
        bring_is l.page version image w done
        (subst (λ (x : HomeState). IsBuffer x.pool) (sym same) home.buffer)
        (subst (λ (x : HomeState). is_some (slot_at x.pool l.page) ≡ true) (sym same) (slot_there h t l home is))
        (subst (λ (x : HomeState). x.pool.size ≡ x.config.size) (sym same) home.sizes.1)
        (subst (λ (x : HomeState). IsImage x.config.size image) (sym same) sized) readable e

    by : (o : Outcome HomeWork) → bring l.page version image w ≡ o → and_so o (locked t l (write_of (pending_of w.home.txs t))) ≡ Goes g → IsHome g.work.home
    by (Goes done) e f = goes_same (locked t l (write_of (pending_of w.home.txs t)) done) (done_sound done (brought_by done e)) f
    by (Differs q expected found) e f = absurd (cc)

-- the rights stay
pub same_rights : (h : HomeState) (t : TxId) (l : Held) → IsHome h → waits_as (pending_of h.txs t) l.page l.mode ≡ true → is_right_kind l.kind ≡ false → AreReaders (add h.txs t l) h.shelf
same_rights h t l home waits other = record {
  readers = λ q.
      All-weaker (λ u. is_some (held_by h.txs u q) ≡ true) (λ u. is_some (held_by (add h.txs t l) u q) ≡ true) (λ u e. still_held h t l home is u q e) (readers_of (right_on h.shelf q)) (home.readers q);
  reading =
      each_place t l.page (λ u q. is_right_lock (held_by (add h.txs t l) u q) ≡ true → among (readers_of (right_on h.shelf q)) u ≡ true)
      (λ e. let no : is_right_lock (held_by (add h.txs t l) t l.page) ≡ false = ap is_right_lock (add_here h.txs t l (there h t l home is)) ∙ other in absurd (cc))
      (λ q apart e. home.reading t q (ap is_right_lock (sym (add_elsewhere h.txs t l (there h t l home is) q apart)) ∙ e))
      (λ u q apart e. home.reading u q (ap (λ o. is_right_lock (lock_on (pages_of_open o) q)) (sym (add_other h.txs t l (there h t l home is) u apart)) ∙ e));
}
  where
    is : IsAwaited h t l
    is = awaited h t l home waits

-- a grant by a lock that isn't under a right
pub granted_sound : GrantedIsSound
granted_sound t l version image w g home waits other sized readable goes =
    granted_with w.home w.home.shelf t l version image w g home refl waits (same_rights w.home t l home waits other) sized readable goes
