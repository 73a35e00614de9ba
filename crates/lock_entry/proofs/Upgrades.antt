-- Who waits and is a holder, after a grant.
use Rattle.std.proofs.Common.{◌≡◌, ℕ, ◌==◌, ◌&&◌, Bool, true, false, not, cond, Option, Some, None, is_some, List, [], ◌∷◌, ◌++◌, refl, ap, sym, ◌∙◌, arith}
use Rattle.std.proofs.lemmas.Bool.Decides.{nat_tests}
use Rattle.pcl_base.specs.declared.tx.TxId.{TxId}
use Rattle.pcl_base.specs.declared.tx.Mode.{Mode}
use Rattle.pcl_base.specs.declared.tx.Mode.TheVariants.{Shared, Exclusive}
use Rattle.pcl_base.specs.declared.lock.Holder.{Holder}
use Rattle.pcl_base.specs.declared.lock.Waiter.{Waiter}
use Rattle.pcl_base.specs.declared.lock.Decision.{Decision}
use Rattle.node_rules.specs.Words.{pick, same_tx}
use Rattle.node_rules.specs.LockRule.{LockEntry, Rest, Next, mode_of, first_upgrade, waiting_without, hold_alone, with_right, with_reader, with_writer, turn, turn_at, turn_for, candidate}
use Rattle.lock_entry.specs.Turns.{entry_after, goes_on}

swap : (m n : ℕ) → (m == n) ≡ (n == m)
swap m n = by (m == n) (n == m) refl refl
  where
    by : (b c : Bool) → (m == n) ≡ b → (n == m) ≡ c → (m == n) ≡ (n == m)
    by true true x y = x ∙ sym y
    by false false x y = x ∙ sym y
    by true false x y = grind (arith, nat_tests)
    by false true x y = grind (arith, nat_tests)

pub same_swap : (t u : TxId) → same_tx t u ≡ same_tx u t
same_swap t u = λ i. (swap t.node u.node i && swap t.born u.born i) && swap t.serial u.serial i

-- later holders have no transaction but t that the holders haven't
abbrev pub AddsAtMost : TxId → List Holder → List Holder → Type 0
AddsAtMost t hs later = (x : TxId) → same_tx x t ≡ false → mode_of hs x ≡ None → mode_of later x ≡ None

pub adds_none : (t : TxId) (hs : List Holder) → AddsAtMost t hs hs
adds_none t hs x other none = none

found_none : (b : Bool) (m : Mode) (rest : Option Mode) → pick b (Some m) rest ≡ None → (b ≡ false) × (rest ≡ None)
found_none true m rest none = absurd (cc)
found_none false m rest none = (refl, none)

-- a transaction that is put last
pub adds_last : (t : TxId) (m : Mode) (hs : List Holder) → AddsAtMost t hs (hs ++ record { tx = t; mode = m } ∷ [])
unfolding mode_of
adds_last t m [] x other none = ap (λ b. pick b (Some m) None) (same_swap t x ∙ other)
adds_last t m (h ∷ hs) x other none =
    let parts = found_none (same_tx h.tx x) h.mode (mode_of hs x) none in
    ap (λ b. pick b (Some h.mode) (mode_of (hs ++ record { tx = t; mode = m } ∷ []) x)) parts.0 ∙ adds_last t m hs x other parts.1

-- a transaction that holds alone
alone_case : (t x : TxId) (h : Holder) (hs : List Holder) (b : Bool) → same_tx x t ≡ false → same_tx h.tx x ≡ false → mode_of hs x ≡ None
    → mode_of (hold_alone hs t) x ≡ None → mode_of (pick b (record { tx = t; mode = Exclusive } ∷ hs) (h ∷ hold_alone hs t)) x ≡ None
unfolding mode_of
alone_case t x h hs true other apart none rest = ap (λ b. pick b (Some Exclusive) (mode_of hs x)) (same_swap t x ∙ other) ∙ none
alone_case t x h hs false other apart none rest = ap (λ b. pick b (Some h.mode) (mode_of (hold_alone hs t) x)) apart ∙ rest

pub adds_alone : (t : TxId) (hs : List Holder) → AddsAtMost t hs (hold_alone hs t)
unfolding mode_of hold_alone
adds_alone t [] x other none = ap (λ b. pick b (Some Exclusive) None) (same_swap t x ∙ other)
adds_alone t (h ∷ hs) x other none =
    let parts = found_none (same_tx h.tx x) h.mode (mode_of hs x) none in
    alone_case t x h hs (same_tx h.tx t) other parts.0 parts.1 (adds_alone t hs x other parts.1)

first_none : (b : Bool) (w : Waiter) (rest : Option Waiter) → pick b (Some w) rest ≡ None → (b ≡ false) × (rest ≡ None)
first_none true w rest none = absurd (cc)
first_none false w rest none = (refl, none)

none_of : (o : Option Mode) → is_some o ≡ false → o ≡ None
none_of None none = refl
none_of (Some m) none = absurd (cc)

without_case : (t : TxId) (hs later : List Holder) (w : Waiter) (ws : List Waiter) (b : Bool) → same_tx w.tx t ≡ b → AddsAtMost t hs later
    → mode_of hs w.tx ≡ None → first_upgrade later ws ≡ None → first_upgrade later (cond (not b) (w ∷ ws) ws) ≡ None
unfolding first_upgrade
without_case t hs later w ws true same adds none rest = rest
without_case t hs later w ws false same adds none rest =
    ap (λ o. pick (is_some o) (Some w) (first_upgrade later ws)) (adds w.tx same none) ∙ rest

-- where none that waits is a holder, none of the others is one after a grant to t
pub upgrade_none : (t : TxId) (hs later : List Holder) (ws : List Waiter) → AddsAtMost t hs later → first_upgrade hs ws ≡ None
    → first_upgrade later (waiting_without ws t) ≡ None
unfolding first_upgrade
upgrade_none t hs later [] adds none = refl
upgrade_none t hs later (w ∷ ws) adds none =
    let parts = first_none (is_some (mode_of hs w.tx)) w (first_upgrade hs ws) none in
    without_case t hs later w (waiting_without ws t) (same_tx w.tx t) refl adds (none_of (mode_of hs w.tx) parts.0) (upgrade_none t hs later ws adds parts.1)

-- no one that waits is a holder
abbrev pub NoUpgrade : LockEntry → Type 0
NoUpgrade e = first_upgrade e.holders e.waiting ≡ None

shared_case : (e : LockEntry) (w : Waiter) (beside right : Bool) (d : Decision) → NoUpgrade e
    → goes_on (pick beside (Rest [] e) (Next d (pick right (with_right e w) (with_reader e w)))) ≡ true
    → NoUpgrade (entry_after (pick beside (Rest [] e) (Next d (pick right (with_right e w) (with_reader e w)))))
shared_case e w true right d none goes = absurd (cc)
shared_case e w false true d none goes = upgrade_none w.tx e.holders e.holders e.waiting (adds_none w.tx e.holders) none
shared_case e w false false d none goes =
    upgrade_none w.tx e.holders (e.holders ++ record { tx = w.tx; mode = Shared } ∷ []) e.waiting (adds_last w.tx Shared e.holders) none

exclusive_case : (e : LockEntry) (w : Waiter) (rests : Bool) (ds : List Decision) (stays : LockEntry) (d : Decision) → NoUpgrade e
    → goes_on (pick rests (Rest ds stays) (Next d (with_writer e w))) ≡ true → NoUpgrade (entry_after (pick rests (Rest ds stays) (Next d (with_writer e w))))
exclusive_case e w true ds stays d none goes = absurd (cc)
exclusive_case e w false ds stays d none goes = upgrade_none w.tx e.holders (hold_alone e.holders w.tx) e.waiting (adds_alone w.tx e.holders) none

mode_case : (owner : ℕ) (e : LockEntry) (w : Waiter) (m : Mode) → NoUpgrade e → goes_on (turn_for owner e w m) ≡ true → NoUpgrade (entry_after (turn_for owner e w m))
mode_case owner e w Shared none goes = shared_case e w _ _ _ none goes
mode_case owner e w Exclusive none goes = exclusive_case e w _ _ _ _ none goes

turn_case : (owner : ℕ) (e : LockEntry) (c : Option Waiter) → NoUpgrade e → goes_on (turn_at owner e c) ≡ true → NoUpgrade (entry_after (turn_at owner e c))
turn_case owner e None none goes = absurd (cc)
turn_case owner e (Some w) none goes = mode_case owner e w w.mode none goes

-- where none that waits is a holder, none is one after a turn that goes on
pub no_upgrade_after : (owner : ℕ) (e : LockEntry) → NoUpgrade e → goes_on (turn owner e) ≡ true → NoUpgrade (entry_after (turn owner e))
unfolding turn
no_upgrade_after owner e none goes = turn_case owner e (candidate e) none goes
