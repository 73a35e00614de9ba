-- Elements of lists, one by one.
use Rattle.std.proofs.Common.{◌≡◌, ◌⊎◌, ℕ, zero, suc, ◌<◌, List, [], ◌∷◌, length, get_or, Contains, arith, inl, inr, cond, ◌||◌, Bool, true, false, filter, ap, refl, ◌∙◌}
use Rattle.std.specs.List.{list_any}

module _ {X : Type 0} where
  pub contains_here : (x : X) (xs : List X) → Contains (x ∷ xs) x
  contains_here x xs = (0, omega arith, refl)

  pub contains_there : (y x : X) (xs : List X) → Contains xs x → Contains (y ∷ xs) x
  contains_there y x xs c = (suc c.0, let l = c.1 in omega arith, c.2)

  contains_at : (y x : X) (xs : List X) (k : ℕ) → k < length (y ∷ xs) → get_or (y ∷ xs) k x ≡ x → (y ≡ x) ⊎ Contains xs x
  contains_at y x xs zero l e = inl e
  contains_at y x xs (suc k) l e = inr (k, omega arith, e)

  pub contains_split : (y x : X) (xs : List X) → Contains (y ∷ xs) x → (y ≡ x) ⊎ Contains xs x
  contains_split y x xs c = contains_at y x xs c.0 c.1 c.2

  pub contains_none : (x : X) → Contains [] x → ⊥
  contains_none x c = let l = c.1 in omega arith

  kept_by : (p : X → Bool) (b : Bool) (y x : X) (xs ys : List X) → ((x : X) → Contains ys x → Contains xs x) → Contains (cond b (y ∷ ys) ys) x → Contains (y ∷ xs) x
  kept_by p true y x xs ys h c = elim (contains_split y x ys c) [ inl e ↦ (0, omega arith, e) | inr r ↦ contains_there y x xs (h x r) ]
  kept_by p false y x xs ys h c = contains_there y x xs (h x c)

  -- what passes a test was there
  pub contains_filtered : (p : X → Bool) (xs : List X) (x : X) → Contains (filter p xs) x → Contains xs x
  contains_filtered p [] x c = c
  contains_filtered p (y ∷ xs) x c = kept_by p (p y) y x xs (filter p xs) (contains_filtered p xs) c

  -- what is there and passes a test
  pub any_in : (p : X → Bool) (xs : List X) (x : X) → Contains xs x → p x ≡ true → list_any p xs ≡ true
  any_in p [] x c e = absurd (contains_none x c)
  any_in p (y ∷ xs) x c e =
      elim (contains_split y x xs c) [
        | inl same ↦ ap (λ (b : Bool). b || list_any p xs) (ap p same ∙ e)
        | inr later ↦ or_true (p y) (list_any p xs) (any_in p xs x later e)
      ]
    where
      or_true : (b r : Bool) → r ≡ true → b || r ≡ true
      or_true true r h = refl
      or_true false r h = h
