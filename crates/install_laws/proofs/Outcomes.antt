-- What holds of the value of an outcome, if there is one, and changes of values.
use Rattle.std.proofs.Common.{◌≡◌, List, [], ◌∷◌, ◌++◌, refl, ap, ◌∙◌}
use Rattle.std.specs.Prelude.{⊤}
use Rattle.std.specs.List.{AllByRecursion}
use Rattle.node_rules.specs.Work.{Outcome, Goes, Differs, and_then, and_so, for_each}

abbrev pub On : {X : Type 0} → (X → Type 0) → Outcome X → Type 0
On P (Goes x) = P x
On P (Differs p expected found) = ⊤

module _ {X Y : Type 0} where
  pub on_then : (P : X → Type 0) (Q : Y → Type 0) (o : Outcome X) (f : X → Outcome Y) → On P o → ((x : X) → P x → On Q (f x)) → On Q (and_then o f)
  on_then P Q (Goes x) f h k = k x h
  on_then P Q (Differs p e d) f h k = tt

  pub on_so : (P : X → Type 0) (Q : Y → Type 0) (o : Outcome X) (f : X → Y) → On P o → ((x : X) → P x → Q (f x)) → On Q (and_so o f)
  on_so P Q (Goes x) f h k = k x h
  on_so P Q (Differs p e d) f h k = tt

  -- the same is done with each value of which it holds
  pub same_then : (P : X → Type 0) (o : Outcome X) (f g : X → Outcome Y) → On P o → ((x : X) → P x → f x ≡ g x) → and_then o f ≡ and_then o g
  same_then P (Goes x) f g h k = k x h
  same_then P (Differs p e d) f g h k = refl

module _ {X : Type 0} where
  pub on_more : (P Q : X → Type 0) (o : Outcome X) → ((x : X) → P x → Q x) → On P o → On Q o
  on_more P Q (Goes x) k h = k x h
  on_more P Q (Differs p e d) k h = tt

module _ {X Y : Type 0} (change : X → X) (turn : Y → Y) where
  pub changed_then : (o : Outcome X) (f : X → Outcome Y) → ((x : X) → f (change x) ≡ and_so (f x) turn) → and_then (and_so o change) f ≡ and_so (and_then o f) turn
  changed_then (Goes x) f same = same x
  changed_then (Differs p e d) f same = refl

module _ {X W : Type 0} where
  -- each item keeps it
  pub on_each : (P : W → Type 0) (F : X → Type 0) (f : X → W → Outcome W) → ((x : X) (w : W) → F x → P w → On P (f x w))
      → (xs : List X) → AllByRecursion F xs → (w : W) → P w → On P (for_each f xs w)
  unfolding for_each
  on_each P F f step [] all w h = h
  on_each P F f step (x ∷ xs) all w h = on_then P P (f x w) (for_each f xs) (step x w all.0 h) (on_each P F f step xs all.1)

  -- a change of the work can be done before or after
  pub each_changed : (change : W → W) (f : X → W → Outcome W) → ((x : X) (w : W) → f x (change w) ≡ and_so (f x w) change)
      → (xs : List X) (w : W) → for_each f xs (change w) ≡ and_so (for_each f xs w) change
  unfolding for_each
  each_changed change f same [] w = refl
  each_changed change f same (x ∷ xs) w =
      ap (λ o. and_then o (for_each f xs)) (same x w) ∙ changed_then change change (f x w) (for_each f xs) (each_changed change f same xs)

  -- one list after another
  pub each_append : (f : X → W → Outcome W) (xs ys : List X) (w : W) → for_each f (xs ++ ys) w ≡ and_then (for_each f xs w) (for_each f ys)
  unfolding for_each
  each_append f [] ys w = refl
  each_append f (x ∷ xs) ys w = by (f x w) (each_append f xs ys)
    where
      by : (o : Outcome W) → ((v : W) → for_each f (xs ++ ys) v ≡ and_then (for_each f xs v) (for_each f ys)) → and_then o (for_each f (xs ++ ys)) ≡ and_then (and_then o (for_each f xs)) (for_each f ys)
      by (Goes v) rest = rest v
      by (Differs p e d) rest = refl
