-- What holds of the value of an outcome, if there is one.
use Rattle.std.proofs.Common.{ℕ, suc, ◌+◌, List, [], ◌∷◌, length, ◌≡◌, arith, subst}
use Rattle.std.specs.Prelude.{⊤}
use Rattle.std.specs.List.{AllByRecursion}
use Rattle.node_rules.specs.Work.{Outcome, Goes, Differs, and_then, and_so, for_each}

abbrev pub On : {X : Type 0} → (X → Type 0) → Outcome X → Type 0
On P (Goes x) = P x
On P (Differs p expected found) = ⊤

-- the value of an outcome, or another one
abbrev pub value_or : {X : Type 0} → X → Outcome X → X
value_or x (Goes y) = y
value_or x (Differs p expected found) = x

module _ {X Y : Type 0} where
  pub on_then : (P : X → Type 0) (Q : Y → Type 0) (o : Outcome X) (f : X → Outcome Y) → On P o → ((x : X) → P x → On Q (f x)) → On Q (and_then o f)
  on_then P Q (Goes x) f h k = k x h
  on_then P Q (Differs p e d) f h k = tt

  pub on_so : (P : X → Type 0) (Q : Y → Type 0) (o : Outcome X) (f : X → Y) → On P o → ((x : X) → P x → Q (f x)) → On Q (and_so o f)
  on_so P Q (Goes x) f h k = k x h
  on_so P Q (Differs p e d) f h k = tt

module _ {X : Type 0} where
  pub on_more : (P Q : X → Type 0) (o : Outcome X) → ((x : X) → P x → Q x) → On P o → On Q o
  on_more P Q (Goes x) k h = k x h
  on_more P Q (Differs p e d) k h = tt

  -- any value
  pub on_any : (o : Outcome X) → On (λ x. ⊤) o
  on_any (Goes x) = tt
  on_any (Differs p e d) = tt

module _ {X W : Type 0} where
  -- each item keeps it
  pub on_each : (P : W → Type 0) (F : X → Type 0) (f : X → W → Outcome W) → ((x : X) (w : W) → F x → P w → On P (f x w))
      → (xs : List X) → AllByRecursion F xs → (w : W) → P w → On P (for_each f xs w)
  unfolding for_each
  on_each P F f step [] all w h = h
  on_each P F f step (x ∷ xs) all w h = on_then P P (f x w) (for_each f xs) (step x w all.0 h) (on_each P F f step xs all.1)

  -- each item costs one
  pub on_count : (P : ℕ → W → Type 0) (f : X → W → Outcome W) → ((x : X) (k : ℕ) (w : W) → P k w → On (P (k + 1)) (f x w))
      → (xs : List X) (k : ℕ) (w : W) → P k w → On (P (k + length xs)) (for_each f xs w)
  unfolding for_each
  on_count P f step [] k w h = let same : k ≡ k + 0 = omega arith in subst (λ n. P n w) same h
  on_count P f step (x ∷ xs) k w h =
      let same : k + 1 + length xs ≡ k + suc (length xs) = omega arith in
      subst (λ n. On (P n) (for_each f (x ∷ xs) w)) same
      (on_then (P (k + 1)) (P (k + 1 + length xs)) (f x w) (for_each f xs) (step x k w h) (on_count P f step xs (k + 1)))
