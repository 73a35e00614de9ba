-- Sums over lists.
use Rattle.std.proofs.Common.{◌≡◌, ℕ, zero, suc, ◌+◌, ◌≤◌, cond, Bool, true, false, List, [], ◌∷◌, ◌++◌, length, map, slice_index_or, slice_set, refl, arith}
use Rattle.std.specs.List.{filter}
use Rattle.step_laws.specs.Most.{sum_of}

module _ {X : Type 0} where
  pub sum_append : (f : X → ℕ) (xs ys : List X) → sum_of f (xs ++ ys) ≡ sum_of f xs + sum_of f ys
  sum_append f [] ys = omega arith
  sum_append f (x ∷ xs) ys = let rest = sum_append f xs ys in omega (arith, rest)

  pub sum_push : (f : X → ℕ) (xs : List X) (x : X) → sum_of f (xs ++ x ∷ []) ≡ sum_of f xs + f x
  sum_push f xs x = let all = sum_append f xs (x ∷ []) in omega (arith, all)

  pub sum_most : (f g : X → ℕ) → ((x : X) → f x ≤ g x) → (xs : List X) → sum_of f xs ≤ sum_of g xs
  sum_most f g each [] = omega arith
  sum_most f g each (x ∷ xs) = let here = each x in let rest = sum_most f g each xs in omega (arith, here, rest)

  pub sum_both : (f g h : X → ℕ) → ((x : X) → f x + g x ≤ h x) → (xs : List X) → sum_of f xs + sum_of g xs ≤ sum_of h xs
  sum_both f g h each [] = omega arith
  sum_both f g h each (x ∷ xs) = let here = each x in let rest = sum_both f g h each xs in omega (arith, here, rest)

  pub sum_ones : (f : X → ℕ) → ((x : X) → f x ≡ 1) → (xs : List X) → sum_of f xs ≡ length xs
  sum_ones f each [] = refl
  sum_ones f each (x ∷ xs) = let here = each x in let rest = sum_ones f each xs in omega (arith, here, rest)

  pub sum_filter : (f : X → ℕ) (p : X → Bool) (xs : List X) → sum_of f (filter p xs) ≤ sum_of f xs
  sum_filter f p [] = omega arith
  sum_filter f p (x ∷ xs) = by (p x) (filter p xs) (sum_filter f p xs)
    where
      by : (b : Bool) (ys : List X) → sum_of f ys ≤ sum_of f xs → sum_of f (cond b (x ∷ ys) ys) ≤ f x + sum_of f xs
      by true ys rest = omega (arith, rest)
      by false ys rest = omega (arith, rest)

  pub sum_map : (f : X → ℕ) (g : X → X) → ((x : X) → f (g x) ≤ f x) → (xs : List X) → sum_of f (map g xs) ≤ sum_of f xs
  sum_map f g each [] = omega arith
  sum_map f g each (x ∷ xs) = let here = each x in let rest = sum_map f g each xs in omega (arith, here, rest)

  -- an item in the place of another, or of one that counts nothing
  pub sum_set : (f : X → ℕ) (d : X) → f d ≡ 0 → (xs : List X) (i : ℕ) (y : X) → sum_of f (slice_set xs i y) + f (slice_index_or xs i d) ≤ sum_of f xs + f y
  sum_set f d none [] i y = omega (arith, none)
  sum_set f d none (x ∷ xs) zero y = omega arith
  sum_set f d none (x ∷ xs) (suc i) y = let rest = sum_set f d none xs i y in omega (arith, rest)

  pub sum_split : (h f g : X → ℕ) → ((x : X) → h x ≤ f x + g x) → (xs : List X) → sum_of h xs ≤ sum_of f xs + sum_of g xs
  sum_split h f g each [] = omega arith
  sum_split h f g each (x ∷ xs) = let here = each x in let rest = sum_split h f g each xs in omega (arith, here, rest)
