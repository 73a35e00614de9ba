-- Settling, decision by decision.
use Rattle.std.proofs.Common.{◌≡◌, ◌≢◌, ℕ, zero, suc, ◌==◌, ◌&&◌, ◌||◌, not, Bool, true, false, List, [], ◌∷◌, map, length, Option, Some, None, Contains, refl, sym, ap, subst, ◌∙◌, arith, inl, inr}
use Rattle.std.specs.List.{list_any}
use Rattle.pcl_base.specs.declared.tx.TxId.{TxId}
use Rattle.pcl_base.specs.declared.tx.Mode.{Mode}
use Rattle.pcl_base.specs.declared.tx.Mode.TheVariants.{Shared, Exclusive}
use Rattle.pcl_base.specs.declared.lock.Holder.{Holder}
use Rattle.pcl_base.specs.declared.lock.Waiter.{Waiter}
use Rattle.pcl_base.specs.declared.lock.RightMark.{RightMark}
use Rattle.pcl_base.specs.declared.lock.Decision.{Decision}
use Rattle.pcl_base.specs.declared.lock.Decision.TheVariants.{Grant}
use Rattle.node_rules.specs.Words.{pick, same_tx, is_exclusive, or_else}
use Rattle.node_rules.specs.LockRule.{LockEntry, Turn, Rest, Next, mode_of, turn, turn_at, turn_for, turn_shared, turn_exclusive, go_on, settle_within, settle, candidate, held_beside, exclusive_beside, has_right, waits_in, waiting_without, gives_right, with_right, with_reader, with_writer, revocations, all_revoked}
use Rattle.rule_laws.proofs.Lists.{any_in}
use Rattle.rule_laws.proofs.Turns.{same_self, candidate_in, waits, gone}
use Rattle.page_laws.specs.Entry.Decisions.{NoWriterWaits, IsLocked, IsGiven, IsMarked, Settles, rests, locks, gives, SettlingDecides, SettlingKeepsItsVersion, LockedIsSeen, GivenIsSeen, MarkedIsSeen}
use Rattle.page_laws.proofs.EntryParts.Words.{same_tells, number_equal, number_self, or_parts, mode_pushed, mode_alone, none_beside, nobody_writes, any_pushed, stays_in}
use Rattle.page_laws.proofs.EntryParts.Marked.{marks_all, revoking}

-- who waits doesn't write
not_writing : (e : LockEntry) (w : Waiter) → NoWriterWaits e → Contains e.waiting w → mode_of e.holders w.tx ≢ Some Exclusive
not_writing e w i c m = let no = i w.tx m in let yes = waits e.waiting w c in absurd (cc)

-- the decisions, each where it may be made
locked_shared : (e : LockEntry) (w : Waiter) → NoWriterWaits e → Contains e.waiting w → w.mode ≡ Shared → exclusive_beside e.holders w.tx ≡ false
    → IsLocked e w.tx Shared w.have (with_reader e w)
locked_shared e w i c m none =
    record {
      waited = subst (λ (k : Mode). Contains e.waiting (record { tx = w.tx; mode = k; have = w.have })) m c;
      no_writer = nobody_writes e.holders w.tx none (not_writing e w i c);
      free = tt;
      version = refl;
      holders = λ u. mode_pushed e.holders (record { tx = w.tx; mode = Shared }) u ∙ elim (same_tells w.tx u) [
        | inl same ↦ subst (λ (x : TxId). or_else (mode_of e.holders x) (pick (same_tx w.tx x) (Some Shared) None) ≡ pick (same_tx w.tx x) (Some Shared) (mode_of e.holders x)) same.1 (own (not_writing e w i c))
        | inr other ↦ apart (same_tx w.tx u) (mode_of e.holders u) other.0
      ];
      rights = refl;
      waiting = refl;
    }
  where
    apart : (b : Bool) (o : Option Mode) → b ≡ false → or_else o (pick b (Some Shared) None) ≡ pick b (Some Shared) o
    apart true o q = absurd (cc)
    apart false None q = refl
    apart false (Some x) q = refl

    by : (b : Bool) (o : Option Mode) → b ≡ true → o ≢ Some Exclusive → or_else o (pick b (Some Shared) None) ≡ pick b (Some Shared) o
    by false o q n = absurd (cc)
    by true None q n = refl
    by true (Some Shared) q n = refl
    by true (Some Exclusive) q n = absurd (n refl)

    own : mode_of e.holders w.tx ≢ Some Exclusive
        → or_else (mode_of e.holders w.tx) (pick (same_tx w.tx w.tx) (Some Shared) None) ≡ pick (same_tx w.tx w.tx) (Some Shared) (mode_of e.holders w.tx)
    own n = by (same_tx w.tx w.tx) (mode_of e.holders w.tx) (elim (same_tells w.tx w.tx) [ inl same ↦ same.0 | inr other ↦ absurd (other.1 refl) ]) n

empty_rights : (rs : List RightMark) → not (length rs == 0) ≡ false → rs ≡ []
empty_rights [] e = refl
empty_rights (r ∷ rs) e = absurd (by (length (r ∷ rs) == 0) refl e)
  where
    by : (b : Bool) → (length (r ∷ rs) == 0) ≡ b → not b ≡ false → ⊥
    by true q f = let zero_long = number_equal (length (r ∷ rs)) 0 q in omega (arith, zero_long)
    by false q f = cc

locked_exclusive : (e : LockEntry) (w : Waiter) → NoWriterWaits e → Contains e.waiting w → w.mode ≡ Exclusive → held_beside e.holders w.tx ≡ false → e.rights ≡ []
    → IsLocked e w.tx Exclusive w.have (with_writer e w)
locked_exclusive e w i c m none no_rights =
    record {
      waited = subst (λ (k : Mode). Contains e.waiting (record { tx = w.tx; mode = k; have = w.have })) m c;
      no_writer = λ u x. elim (none_beside e.holders w.tx u none) [
        | inl nothing ↦ let bad : None ≡ Some Exclusive = sym nothing ∙ x in absurd (cc)
        | inr same ↦ not_writing e w i c (subst (λ (y : TxId). mode_of e.holders y ≡ Some Exclusive) same x)
      ];
      free = record { others = λ u. none_beside e.holders w.tx u none; rights = no_rights };
      version = refl;
      holders = λ u. mode_alone e.holders w.tx u;
      rights = refl;
      waiting = refl;
    }

given_right : (owner : ℕ) (e : LockEntry) (w : Waiter) → NoWriterWaits e → Contains e.waiting w → w.mode ≡ Shared → exclusive_beside e.holders w.tx ≡ false → gives_right owner e w ≡ true
    → IsGiven owner e w.tx w.have (with_right e w)
unfolding gives_right
given_right owner e w i c m none g =
    record {
      waited = subst (λ (k : Mode). Contains e.waiting (record { tx = w.tx; mode = k; have = w.have })) m c;
      no_writer = nobody_writes e.holders w.tx none (not_writing e w i c);
      away = λ s. let same : (w.tx.node == owner) ≡ true = subst (λ (n : ℕ). (w.tx.node == n) ≡ true) s (number_self w.tx.node) in let other = tests.0 in absurd (cc);
      no_right = tests.1;
      readers = λ x there writes. only x there writes tests.2;
      version = refl;
      holders = refl;
      rights = refl;
      waiting = refl;
    }
  where
    three : (a b c : Bool) → not a && (not b && not c) ≡ true → (a ≡ false) × (b ≡ false) × (c ≡ false)
    three false false false h = (refl, refl, refl)
    three false false true h = absurd (cc)
    three false true c h = absurd (cc)
    three true b c h = absurd (cc)

    tests : ((w.tx.node == owner) ≡ false) × (has_right e.rights w.tx.node ≡ false) × (list_any (λ y. is_exclusive y.mode) (waiting_without e.waiting w.tx) ≡ false)
    tests = three (w.tx.node == owner) (has_right e.rights w.tx.node) (list_any (λ y. is_exclusive y.mode) (waiting_without e.waiting w.tx)) g

    only : (x : Waiter) → Contains e.waiting x → x.mode ≡ Exclusive → list_any (λ y. is_exclusive y.mode) (waiting_without e.waiting w.tx) ≡ false → x.tx ≡ w.tx
    only x there writes none_waits =
        elim (same_tells x.tx w.tx) [
          | inl same ↦ same.1
          | inr other ↦ let some = any_in (λ y. is_exclusive y.mode) (waiting_without e.waiting w.tx) x
              (stays_in (λ y. not (same_tx y.tx w.tx)) e.waiting x there (ap not other.0)) (ap is_exclusive writes) in
              absurd (cc)
        ]

-- a turn is one decision, or the last ones
abbrev IsTurn : ℕ → LockEntry → Turn → Type 0
IsTurn owner e (Rest ds later) = Settles owner e ds later
IsTurn owner e (Next d later) = ((after : LockEntry) (ds : List Decision) → Settles owner later ds after → Settles owner e (d ∷ ds) after) × NoWriterWaits later

-- no writer waits after a grant
pub locked_keeps : (e later : LockEntry) (t : TxId) (m : Mode) (have : Option ℕ) → IsLocked e t m have later → NoWriterWaits e → NoWriterWaits later
locked_keeps e later t m have l i u x =
    elim (same_tells t u) [
      | inl same ↦ ap (λ (ws : List Waiter). waits_in ws u) l.waiting ∙ subst (λ (y : TxId). waits_in (waiting_without e.waiting t) y ≡ false) same.1 (gone e.waiting t)
      | inr other ↦
          let before : mode_of e.holders u ≡ Some Exclusive = ap (λ (b : Bool). pick b (Some m) (mode_of e.holders u)) (sym other.0) ∙ (sym (l.holders u) ∙ x) in
          absurd (l.no_writer u before)
    ]

pub given_keeps : (owner : ℕ) (e later : LockEntry) (t : TxId) (have : Option ℕ) → IsGiven owner e t have later → NoWriterWaits e → NoWriterWaits later
given_keeps owner e later t have l i u x =
    absurd (l.no_writer u (subst (λ (hs : List Holder). mode_of hs u ≡ Some Exclusive) l.holders x))

pub marked_keeps : (e later : LockEntry) (n : ℕ) → IsMarked e n later → NoWriterWaits e → NoWriterWaits later
marked_keeps e later n l i t x =
    ap (λ (ws : List Waiter). waits_in ws t) l.waiting ∙ i t (subst (λ (hs : List Holder). mode_of hs t ≡ Some Exclusive) l.holders x)

shared_turn : (owner : ℕ) (e : LockEntry) (w : Waiter) → NoWriterWaits e → Contains e.waiting w → w.mode ≡ Shared → IsTurn owner e (turn_shared owner e w)
shared_turn owner e w i c m = by (exclusive_beside e.holders w.tx) refl (gives_right owner e w) refl
  where
    by : (b : Bool) → exclusive_beside e.holders w.tx ≡ b → (g : Bool) → gives_right owner e w ≡ g
        → IsTurn owner e (pick b (Rest [] e) (Next (Grant w.tx Shared g w.have) (pick g (with_right e w) (with_reader e w))))
    by true x g h = rests e
    by false x true h =
        let given = given_right owner e w i c m x h in
        ((λ after ds s. gives e (with_right e w) after w.tx w.have ds given s), given_keeps owner e (with_right e w) w.tx w.have given i)
    by false x false h =
        let locked = locked_shared e w i c m x in
        ((λ after ds s. locks e (with_reader e w) after w.tx Shared w.have ds locked s), locked_keeps e (with_reader e w) w.tx Shared w.have locked i)

exclusive_turn : (owner : ℕ) (e : LockEntry) (w : Waiter) → NoWriterWaits e → Contains e.waiting w → w.mode ≡ Exclusive → IsTurn owner e (turn_exclusive e w)
exclusive_turn owner e w i c m = by (held_beside e.holders w.tx || not (length e.rights == 0)) refl
  where
    by : (b : Bool) → held_beside e.holders w.tx || not (length e.rights == 0) ≡ b
        → IsTurn owner e (pick b (Rest (revocations e.rights) (record e { rights = all_revoked e.rights })) (Next (Grant w.tx Exclusive false w.have) (with_writer e w)))
    by true x = revoking owner e e.rights (all_revoked e.rights) (revocations e.rights) (marks_all e.rights)
    by false x =
        let both = or_parts (held_beside e.holders w.tx) (not (length e.rights == 0)) x in
        let locked = locked_exclusive e w i c m both.0 (empty_rights e.rights both.1) in
        ((λ after ds s. locks e (with_writer e w) after w.tx Exclusive w.have ds locked s), locked_keeps e (with_writer e w) w.tx Exclusive w.have locked i)

turn_is : (owner : ℕ) (e : LockEntry) → NoWriterWaits e → IsTurn owner e (turn owner e)
unfolding turn
turn_is owner e i = by (candidate e) refl
  where
    mode_by : (w : Waiter) → candidate e ≡ Some w → (k : Mode) → w.mode ≡ k → IsTurn owner e (turn_for owner e w k)
    mode_by w q Shared m = shared_turn owner e w i (candidate_in e w q) m
    mode_by w q Exclusive m = exclusive_turn owner e w i (candidate_in e w q) m

    by : (o : Option Waiter) → candidate e ≡ o → IsTurn owner e (turn_at owner e o)
    by None q = rests e
    by (Some w) q = mode_by w q w.mode refl

settles_on : (n owner : ℕ) (e : LockEntry) (t : Turn) → IsTurn owner e t
    → ((later : LockEntry) → NoWriterWaits later → Settles owner later (settle_within n owner later).decisions (settle_within n owner later).entry)
    → Settles owner e (go_on t (settle_within n owner)).decisions (go_on t (settle_within n owner)).entry
settles_on n owner e (Rest ds later) f h = f
settles_on n owner e (Next d later) f h = f.0 (settle_within n owner later).entry (settle_within n owner later).decisions (h later f.1)

settles_within : (n owner : ℕ) (e : LockEntry) → NoWriterWaits e → Settles owner e (settle_within n owner e).decisions (settle_within n owner e).entry
unfolding settle_within
settles_within zero owner e i = rests e
settles_within (suc n) owner e i = settles_on n owner e (turn owner e) (turn_is owner e i) (settles_within n owner)

pub settling_decides_law : SettlingDecides
unfolding settle
settling_decides_law owner e i = settles_within (length e.waiting) owner e i

-- settling and versions
-- a turn keeps a version
abbrev TurnKeeps : ℕ → Turn → Type 0
TurnKeeps v (Rest ds later) = later.version ≡ v
TurnKeeps v (Next d later) = later.version ≡ v

version_on : (n owner : ℕ) (e : LockEntry) (v : ℕ) (t : Turn) → TurnKeeps v t
    → ((later : LockEntry) → later.version ≡ v → (settle_within n owner later).entry.version ≡ v)
    → (go_on t (settle_within n owner)).entry.version ≡ v
version_on n owner e v (Rest ds later) f h = f
version_on n owner e v (Next d later) f h = h later f

turn_version : (owner : ℕ) (e : LockEntry) → TurnKeeps e.version (turn owner e)
unfolding turn
turn_version owner e = by (candidate e)
  where
    shared : (w : Waiter) (b g : Bool) → TurnKeeps e.version (pick b (Rest [] e) (Next (Grant w.tx Shared g w.have) (pick g (with_right e w) (with_reader e w))))
    shared w true g = refl
    shared w false true = refl
    shared w false false = refl

    exclusive : (w : Waiter) (b : Bool) → TurnKeeps e.version (pick b (Rest (revocations e.rights) (record e { rights = all_revoked e.rights })) (Next (Grant w.tx Exclusive false w.have) (with_writer e w)))
    exclusive w true = refl
    exclusive w false = refl

    mode_by : (w : Waiter) (k : Mode) → TurnKeeps e.version (turn_for owner e w k)
    mode_by w Shared = shared w (exclusive_beside e.holders w.tx) (gives_right owner e w)
    mode_by w Exclusive = exclusive w (held_beside e.holders w.tx || not (length e.rights == 0))

    by : (o : Option Waiter) → TurnKeeps e.version (turn_at owner e o)
    by None = refl
    by (Some w) = mode_by w w.mode

version_within : (n owner v : ℕ) (e : LockEntry) → e.version ≡ v → (settle_within n owner e).entry.version ≡ v
unfolding settle_within
version_within zero owner v e q = q
version_within (suc n) owner v e q = version_on n owner e v (turn owner e) (subst (λ (x : ℕ). TurnKeeps x (turn owner e)) q (turn_version owner e)) (version_within n owner v)

pub settling_keeps_its_version_law : SettlingKeepsItsVersion
unfolding settle
settling_keeps_its_version_law owner e = version_within (length e.waiting) owner e.version e refl

-- what is seen after one decision
pub locked_is_seen_law : LockedIsSeen
locked_is_seen_law e later t m have l = (
  l.holders t ∙ ap (λ (b : Bool). pick b (Some m) (mode_of e.holders t)) (same_self t),
  λ n. ap (λ (rs : List RightMark). has_right rs n) l.rights,
  ap (λ (ws : List Waiter). waits_in ws t) l.waiting ∙ gone e.waiting t,
)

or_swap : (a b : Bool) → a || b ≡ b || a
or_swap true true = refl
or_swap true false = refl
or_swap false true = refl
or_swap false false = refl

pub given_is_seen_law : GivenIsSeen
given_is_seen_law owner e later t have l = (
  λ u. ap (λ (hs : List Holder). mode_of hs u) l.holders,
  λ n.
      ap (λ (rs : List RightMark). has_right rs n) l.rights
      ∙ (any_pushed (λ r. r.node == n) e.rights (record { node = t.node; revoked = false }) ∙ or_swap (has_right e.rights n) (t.node == n)),
  ap (λ (ws : List Waiter). waits_in ws t) l.waiting ∙ gone e.waiting t,
)

-- rights of the same nodes
same_nodes : (rs later : List RightMark) (n : ℕ) → map (λ r. r.node) later ≡ map (λ r. r.node) rs → has_right later n ≡ has_right rs n
same_nodes rs later n e = at later ∙ (ap (λ ns. list_any (λ m. m == n) ns) e ∙ sym (at rs))
  where
    at : (xs : List RightMark) → has_right xs n ≡ list_any (λ m. m == n) (map (λ r. r.node) xs)
    at [] = refl
    at (x ∷ xs) = ap (λ b. (x.node == n) || b) (at xs)

pub marked_is_seen_law : MarkedIsSeen
marked_is_seen_law e later n l = (
  λ u. ap (λ (hs : List Holder). mode_of hs u) l.holders,
  λ m. same_nodes e.rights later.rights m l.rights,
  λ u. ap (λ (ws : List Waiter). waits_in ws u) l.waiting,
)
