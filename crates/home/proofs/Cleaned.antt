-- A copy that isn't there needs no cleaning.
use Rattle.std.proofs.Common.{◌≡◌, ℕ, ◌==◌, Bool, true, false, List, [], ◌∷◌, Some, is_some, refl, ap}
use Rattle.node_rules.specs.Words.{pick}
use Rattle.node_rules.specs.BufferRule.{Pool, Slot, slot_in, has_slot, change_slot, cleaned, clean}

none_changed : (f : Slot → Slot) (ss : List Slot) (p : ℕ) → is_some (slot_in ss p) ≡ false → change_slot f ss p ≡ ss
unfolding slot_in change_slot
none_changed f [] p none = refl
none_changed f (s ∷ ss) p none = by_test (s.page == p) none (none_changed f ss p)
  where
    by_test : (b : Bool) → is_some (pick b (Some s) (slot_in ss p)) ≡ false → (is_some (slot_in ss p) ≡ false → change_slot f ss p ≡ ss)
        → pick b (f s) s ∷ change_slot f ss p ≡ s ∷ ss
    by_test true none rest = absurd (cc)
    by_test false none rest = ap (λ l. s ∷ l) (rest none)

pub clean_none : (b : Pool) (p : ℕ) → has_slot b p ≡ false → clean b p ≡ b
unfolding clean
clean_none b p none = ap (λ (l : List Slot). let c : Pool = record b { slots = l } in c) (none_changed (λ s. record s { copy = cleaned s.copy }) b.slots p none)
