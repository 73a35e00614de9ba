-- Facts of lists whose items all have something.
use Rattle.std.proofs.Common.{◌≡◌, refl, ap, subst, sym, ℕ, zero, suc, ◌<◌, cond, Bool, true, false, List, [], ◌∷◌, ◌++◌, length, map, slice_index_or, slice_set, arith, ◌==◌}
use Rattle.std.proofs.lemmas.Bool.Decides.{nat_tests}
use Rattle.std.specs.List.{AllByRecursion, filter}

module _ {X : Type 0} (P : X → Type 0) where
  pub all_append : (xs ys : List X) → AllByRecursion P xs → AllByRecursion P ys → AllByRecursion P (xs ++ ys)
  all_append [] ys a b = b
  all_append (x ∷ xs) ys a b = (a.0, all_append xs ys a.1 b)

  pub all_push : (xs : List X) (y : X) → AllByRecursion P xs → P y → AllByRecursion P (xs ++ y ∷ [])
  all_push xs y a b = all_append xs (y ∷ []) a (b, tt)

  pub all_filter : (p : X → Bool) (xs : List X) → AllByRecursion P xs → AllByRecursion P (filter p xs)
  all_filter p [] a = tt
  all_filter p (x ∷ xs) a = by (p x) (all_filter p xs a.1)
    where
      by : (b : Bool) → AllByRecursion P (filter p xs) → AllByRecursion P (cond b (x ∷ filter p xs) (filter p xs))
      by true rest = (a.0, rest)
      by false rest = rest

  pub all_weaker : (Q : X → Type 0) → ((x : X) → P x → Q x) → (xs : List X) → AllByRecursion P xs → AllByRecursion Q xs
  all_weaker Q f [] a = tt
  all_weaker Q f (x ∷ xs) a = (f x a.0, all_weaker Q f xs a.1)

  pub all_each : ((x : X) → P x) → (xs : List X) → AllByRecursion P xs
  all_each f [] = tt
  all_each f (x ∷ xs) = (f x, all_each f xs)

  -- an item in the place of another
  pub set_look : (d : X) (xs : List X) (i j : ℕ) (y : X) → (j ≡ i → P y) → P (slice_index_or xs j d) → P (slice_index_or (slice_set xs i y) j d)
  set_look d [] i j y new old = old
  set_look d (x ∷ xs) zero zero y new old = new refl
  set_look d (x ∷ xs) zero (suc j) y new old = old
  set_look d (x ∷ xs) (suc i) zero y new old = old
  set_look d (x ∷ xs) (suc i) (suc j) y new old = set_look d xs i j y (λ e. new (ap suc e)) old

module _ {X Y : Type 0} (P : X → Type 0) (Q : Y → Type 0) (f : X → Y) where
  pub all_map : ((x : X) → P x → Q (f x)) → (xs : List X) → AllByRecursion P xs → AllByRecursion Q (map f xs)
  all_map k [] a = tt
  all_map k (x ∷ xs) a = (k x a.0, all_map k xs a.1)

module _ {X : Type 0} where
  pub set_length : (xs : List X) (i : ℕ) (y : X) → length (slice_set xs i y) ≡ length xs
  set_length [] i y = refl
  set_length (x ∷ xs) zero y = refl
  set_length (x ∷ xs) (suc i) y = ap suc (set_length xs i y)

  -- the item that was put there
  pub set_same : (d : X) (xs : List X) (i : ℕ) (y : X) → i < length xs → slice_index_or (slice_set xs i y) i d ≡ y
  set_same d [] i y low = absurd (omega (arith, low))
  set_same d (x ∷ xs) zero y low = refl
  set_same d (x ∷ xs) (suc i) y low = set_same d xs i y (omega (arith, low))

module _ {X : Type 0} (P : X → Type 0) where
  -- an item in the place of one that may be any
  pub set_at : (d : X) (xs : List X) (i j : ℕ) (y : X) → i < length xs → (j ≡ i → P y) → ((j == i) ≡ false → P (slice_index_or xs j d)) → P (slice_index_or (slice_set xs i y) j d)
  set_at d xs i j y low new old = by (j == i) refl
    where
      by : (b : Bool) → (j == i) ≡ b → P (slice_index_or (slice_set xs i y) j d)
      by true e =
          let same : j ≡ i = grind (arith, nat_tests, e) in
          subst (λ (n : ℕ). P (slice_index_or (slice_set xs i y) n d)) (sym same) (subst P (sym (set_same d xs i y low)) (new same))
      by false e = set_look P d xs i j y new (old e)
