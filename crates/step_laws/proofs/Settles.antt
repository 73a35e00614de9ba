-- How many decisions settling an entry makes.
use Rattle.std.proofs.Common.{◌≡◌, ℕ, zero, suc, ◌+◌, ◌<◌, ◌≤◌, ◌==◌, ◌&&◌, ◌||◌, not, cond, Bool, true, false, List, [], ◌∷◌, length, Option, Some, None, refl, ap, ◌∙◌, arith, is_some}
use Rattle.std.specs.List.{list_any, filter}
use Rattle.std.proofs.lemmas.Bool.Decides.{nat_tests}
use Rattle.pcl_base.specs.declared.tx.TxId.{TxId}
use Rattle.pcl_base.specs.declared.tx.Mode.{Mode}
use Rattle.pcl_base.specs.declared.tx.Mode.TheVariants.{Shared, Exclusive}
use Rattle.pcl_base.specs.declared.lock.Holder.{Holder}
use Rattle.pcl_base.specs.declared.lock.Waiter.{Waiter}
use Rattle.pcl_base.specs.declared.lock.RightMark.{RightMark}
use Rattle.pcl_base.specs.declared.lock.Decision.{Decision}
use Rattle.pcl_base.specs.declared.lock.Decision.TheVariants.{Grant, Revoke}
use Rattle.node_rules.specs.Words.{pick, same_tx, is_exclusive, or_else, head_of}
use Rattle.node_rules.specs.LockRule.{LockEntry, Turn, Rest, Next, mode_of, turn, turn_at, turn_for, turn_shared, turn_exclusive, Settled, go_on, settle_within, settle, candidate, first_upgrade, held_beside, exclusive_beside, waits_in, waiting_without, has_right, gives_right, with_right, with_reader, with_writer, revocations, all_revoked}

-- whether one waits that wants to write
abbrev pub writer_waits : List Waiter → Bool
writer_waits ws = list_any (λ x. is_exclusive x.mode) ws

-- the rights that may have to be revoked
abbrev pub fresh : Bool → List RightMark → ℕ
fresh true rs = length (revocations rs)
fresh false rs = 0

abbrev pub due_with : List Waiter → List RightMark → ℕ
due_with ws rs = length ws + fresh (writer_waits ws) rs

-- the decisions that are due at an entry, at most: a grant for each that waits, and a revocation for
-- each right that isn't revoked, where one waits that wants to write
abbrev pub due : LockEntry → ℕ
due e = due_with e.waiting e.rights

-- the candidate waits
head_any : (p : Waiter → Bool) (ws : List Waiter) (w : Waiter) → head_of ws ≡ Some w → p w ≡ true → list_any p ws ≡ true
head_any p [] w e h = absurd (cc)
head_any p (x ∷ ws) w e h = let same : x ≡ w = cc in ap (λ b. b || list_any p ws) (ap p same ∙ h)

or_true : (a b : Bool) → b ≡ true → a || b ≡ true
or_true true b e = refl
or_true false b e = e

upgrade_any : (p : Waiter → Bool) (hs : List Holder) (ws : List Waiter) (w : Waiter) → first_upgrade hs ws ≡ Some w → p w ≡ true → list_any p ws ≡ true
unfolding first_upgrade
upgrade_any p hs [] w e h = absurd (cc)
upgrade_any p hs (x ∷ ws) w e h = by (is_some (mode_of hs x.tx)) (first_upgrade hs ws) (λ q. upgrade_any p hs ws w q h) e
  where
    by : (b : Bool) (o : Option Waiter) → (o ≡ Some w → list_any p ws ≡ true) → pick b (Some x) o ≡ Some w → list_any p (x ∷ ws) ≡ true
    by true o later q = let same : x ≡ w = cc in ap (λ b. b || list_any p ws) (ap p same ∙ h)
    by false o later q = or_true (p x) (list_any p ws) (later q)

candidate_any : (p : Waiter → Bool) (e : LockEntry) (w : Waiter) → candidate e ≡ Some w → p w ≡ true → list_any p e.waiting ≡ true
unfolding candidate
candidate_any p e w q h = by (first_upgrade e.holders e.waiting) refl q
  where
    by : (o : Option Waiter) → first_upgrade e.holders e.waiting ≡ o → or_else o (head_of e.waiting) ≡ Some w → list_any p e.waiting ≡ true
    by None f r = head_any p e.waiting w r h
    by (Some x) f r = upgrade_any p e.holders e.waiting w (f ∙ r) h

same_self : (t : TxId) → same_tx t t ≡ true
same_self t = grind (arith, nat_tests)

-- fewer wait without one that waits
pub not_more : (ws : List Waiter) (t : TxId) → length (waiting_without ws t) ≤ length ws
not_more [] t = omega arith
not_more (w ∷ ws) t = by (same_tx w.tx t) (waiting_without ws t) (not_more ws t)
  where
    by : (b : Bool) (l : List Waiter) → length l ≤ length ws → length (cond (not b) (w ∷ l) l) ≤ suc (length ws)
    by true l h = omega arith
    by false l h = omega arith

fewer : (ws : List Waiter) (t : TxId) → waits_in ws t ≡ true → length (waiting_without ws t) < length ws
fewer [] t e = absurd (cc)
fewer (w ∷ ws) t e = by (same_tx w.tx t) (waiting_without ws t) (waits_in ws t) (not_more ws t) (fewer ws t) e
  where
    by : (b : Bool) (l : List Waiter) (r : Bool) → length l ≤ length ws → (r ≡ true → length l < length ws) → b || r ≡ true
        → length (cond (not b) (w ∷ l) l) < suc (length ws)
    by true l r h k q = omega arith
    by false l r h k q = let less = k q in omega arith

-- fewer rights are due where no more wait that want to write
pub fresh_less : (a b : Bool) (rs : List RightMark) → (b ≡ false → a ≡ false) → fresh a rs ≤ fresh b rs
fresh_less a true rs h = by a
  where
    by : (a : Bool) → fresh a rs ≤ length (revocations rs)
    by true = omega arith
    by false = omega arith
fresh_less a false rs h = let none : fresh a rs ≡ 0 = ap (λ b. fresh b rs) (h refl) in omega (arith, none)

-- none that passes a test is among fewer
pub none_kept : (p keep : Waiter → Bool) (ws : List Waiter) → list_any p ws ≡ false → list_any p (filter keep ws) ≡ false
none_kept p keep [] e = refl
none_kept p keep (w ∷ ws) e = by (p w) (keep w) refl (list_any p ws) e (filter keep ws) (none_kept p keep ws)
  where
    by : (b c : Bool) → p w ≡ b → (r : Bool) → b || r ≡ false → (l : List Waiter) → (r ≡ false → list_any p l ≡ false)
        → list_any p (cond c (w ∷ l) l) ≡ false
    by true c q r f l h = absurd (cc)
    by false false q r f l h = h f
    by false true q r f l h = ap (λ (b : Bool). b || list_any p l) q ∙ h f

pub kept_due : (keep : Waiter → Bool) (ws : List Waiter) (rs : List RightMark) → length (filter keep ws) ≤ length ws → due_with (filter keep ws) rs ≤ due_with ws rs
kept_due keep ws rs few =
    let less = fresh_less (writer_waits (filter keep ws)) (writer_waits ws) rs (none_kept (λ x. is_exclusive x.mode) keep ws) in
    omega (arith, few, less)

-- one decision less is due after a grant
granted_due : (ws : List Waiter) (t : TxId) (rs : List RightMark) → waits_in ws t ≡ true → suc (due_with (waiting_without ws t) rs) ≤ due_with ws rs
granted_due ws t rs there =
    let few = fewer ws t there in
    let less = fresh_less (writer_waits (waiting_without ws t)) (writer_waits ws) rs (none_kept (λ x. is_exclusive x.mode) (λ w. not (same_tx w.tx t)) ws) in
    omega (arith, few, less)

calm_due : (ws : List Waiter) (t : TxId) (rs later : List RightMark) → waits_in ws t ≡ true → writer_waits (waiting_without ws t) ≡ false
    → suc (due_with (waiting_without ws t) later) ≤ due_with ws rs
calm_due ws t rs later there calm =
    let few = fewer ws t there in
    let none : fresh (writer_waits (waiting_without ws t)) later ≡ 0 = ap (λ b. fresh b later) calm in
    omega (arith, few, none)

-- no right is left to be revoked once all are
all_due : (rs : List RightMark) → length (revocations (all_revoked rs)) ≡ 0
unfolding revocations
all_due [] = refl
all_due (r ∷ rs) = all_due rs

revoked_due : (ws : List Waiter) (rs : List RightMark) → writer_waits ws ≡ true → length (revocations rs) + due_with ws (all_revoked rs) ≤ due_with ws rs
revoked_due ws rs there =
    let none = all_due rs in
    let after : fresh (writer_waits ws) (all_revoked rs) ≡ length (revocations (all_revoked rs)) = ap (λ b. fresh b (all_revoked rs)) there in
    let before : fresh (writer_waits ws) rs ≡ length (revocations rs) = ap (λ b. fresh b rs) there in
    omega (arith, none, after, before)

-- a turn makes no more decisions than are due
abbrev pub IsDue : LockEntry → Turn → Type 0
IsDue e (Rest ds later) = length ds + due later ≤ due e
IsDue e (Next d later) = suc (due later) ≤ due e

and_right : (a b : Bool) → a && b ≡ true → b ≡ true
and_right true b e = e
and_right false b e = absurd (cc)

not_true : (a : Bool) → not a ≡ true → a ≡ false
not_true true e = absurd (cc)
not_true false e = refl

right_calm : (owner : ℕ) (e : LockEntry) (w : Waiter) → gives_right owner e w ≡ true → writer_waits (waiting_without e.waiting w.tx) ≡ false
unfolding gives_right
right_calm owner e w g =
    not_true (writer_waits (waiting_without e.waiting w.tx))
    (and_right (not (has_right e.rights w.tx.node)) (not (writer_waits (waiting_without e.waiting w.tx)))
    (and_right (not (w.tx.node == owner)) (not (has_right e.rights w.tx.node) && not (writer_waits (waiting_without e.waiting w.tx))) g))

shared_due : (owner : ℕ) (e : LockEntry) (w : Waiter) → waits_in e.waiting w.tx ≡ true → IsDue e (turn_shared owner e w)
shared_due owner e w there = by (exclusive_beside e.holders w.tx) (gives_right owner e w) refl
  where
    by : (b g : Bool) → gives_right owner e w ≡ g
        → IsDue e (pick b (Rest [] e) (Next (Grant w.tx Shared g w.have) (pick g (with_right e w) (with_reader e w))))
    by true g h = omega arith
    by false true h = calm_due e.waiting w.tx e.rights (with_right e w).rights there (right_calm owner e w h)
    by false false h = granted_due e.waiting w.tx e.rights there

exclusive_due : (e : LockEntry) (w : Waiter) → waits_in e.waiting w.tx ≡ true → writer_waits e.waiting ≡ true → IsDue e (turn_exclusive e w)
exclusive_due e w there writes = by (held_beside e.holders w.tx || not (length e.rights == 0))
  where
    by : (b : Bool)
        → IsDue e (pick b (Rest (revocations e.rights) (record e { rights = all_revoked e.rights })) (Next (Grant w.tx Exclusive false w.have) (with_writer e w)))
    by true = revoked_due e.waiting e.rights writes
    by false = granted_due e.waiting w.tx e.rights there

turn_due : (owner : ℕ) (e : LockEntry) → IsDue e (turn owner e)
unfolding turn
turn_due owner e = by (candidate e) refl
  where
    mode_by : (w : Waiter) → candidate e ≡ Some w → waits_in e.waiting w.tx ≡ true → (k : Mode) → w.mode ≡ k → IsDue e (turn_for owner e w k)
    mode_by w q there Shared m = shared_due owner e w there
    mode_by w q there Exclusive m = exclusive_due e w there (candidate_any (λ x. is_exclusive x.mode) e w q (ap is_exclusive m))

    by : (o : Option Waiter) → candidate e ≡ o → IsDue e (turn_at owner e o)
    by None q = omega arith
    by (Some w) q = mode_by w q (candidate_any (λ x. same_tx x.tx w.tx) e w q (same_self w.tx)) w.mode refl

go_on_due : (e : LockEntry) (t : Turn) (further : LockEntry → Settled) → ((later : LockEntry) → length (further later).decisions + due (further later).entry ≤ due later)
    → IsDue e t → length (go_on t further).decisions + due (go_on t further).entry ≤ due e
go_on_due e (Rest ds later) further rest h = h
go_on_due e (Next d later) further rest h = let after = rest later in omega (arith, h, after)

within_due : (n owner : ℕ) (e : LockEntry) → length (settle_within n owner e).decisions + due (settle_within n owner e).entry ≤ due e
unfolding settle_within
within_due zero owner e = omega arith
within_due (suc n) owner e = go_on_due e (turn owner e) (settle_within n owner) (within_due n owner) (turn_due owner e)

-- settling makes no more decisions than are due, and what is due after it is left over
pub settle_due : (owner : ℕ) (e : LockEntry) → length (settle owner e).decisions + due (settle owner e).entry ≤ due e
unfolding settle
settle_due owner e = within_due (length e.waiting) owner e

revocations_few : (rs : List RightMark) → length (revocations rs) ≤ length rs
unfolding revocations
revocations_few [] = omega arith
revocations_few (r ∷ rs) = by r.revoked (revocations rs) (revocations_few rs)
  where
    by : (b : Bool) (ds : List Decision) → length ds ≤ length rs → length (pick b ds (Revoke r.node ∷ ds)) ≤ suc (length rs)
    by true ds h = omega (arith, h)
    by false ds h = omega (arith, h)

-- those that wait and the rights
abbrev pub load : LockEntry → ℕ
load e = length e.waiting + length e.rights

pub due_few : (e : LockEntry) → due e ≤ load e
due_few e =
    let most = fresh_less (writer_waits e.waiting) true e.rights (λ q. absurd (cc)) in
    let few = revocations_few e.rights in
    omega (arith, most, few)
