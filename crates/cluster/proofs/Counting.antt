-- Loops over the numbers of nodes.
use Rattle.std.proofs.Common.{◌≡◌, ℕ, suc, ◌+◌, ◌-◌, ◌<◌, ◌≤◌, ◌||◌, Bool, true, false, cond, List, [], ◌∷◌, ◌++◌, map, ap, sym, ◌∙◌, arith}
use Rattle.std.proofs.lemmas.List.{append_assoc, append-nil}
use Rattle.std.specs.List.{filter, list_any}
use Rattle.run_rules.specs.Views.{count_from}

-- an item that passes, and one that doesn't
taken : {X : Type 0} (g : X → Bool) (x : X) (xs out more : List X) → g x ≡ true → more ≡ out ++ x ∷ [] → more ++ filter g xs ≡ out ++ filter g (x ∷ xs)
taken g x xs out more passes made =
    ap (λ l. l ++ filter g xs) made
    ∙ (append_assoc out (x ∷ []) (filter g xs) ∙ ap (λ b. out ++ cond b (x ∷ filter g xs) (filter g xs)) (sym passes))

passed : {X : Type 0} (g : X → Bool) (x : X) (xs out : List X) → g x ≡ false → out ++ filter g xs ≡ out ++ filter g (x ∷ xs)
passed g x xs out fails = ap (λ b. out ++ cond b (x ∷ filter g xs) (filter g xs)) (sym fails)

next : (n end : ℕ) → n < end → count_from n (end - n) ≡ n ∷ count_from (n + 1) (end - (n + 1))
unfolding count_from
next n end below =
    let rest : end - n ≡ suc (end - (n + 1)) = omega arith in
    ap (count_from n) rest

none_left : (n end : ℕ) → end ≤ n → count_from n (end - n) ≡ []
unfolding count_from
none_left n end past =
    let none : end - n ≡ 0 = omega arith in
    ap (count_from n) none

module _ (g : ℕ → Bool) (n end : ℕ) where
  -- the numbers that pass a test
  pub count_taken : (out more : List ℕ) → n < end → g n ≡ true → more ≡ out ++ n ∷ []
      → more ++ filter g (count_from (n + 1) (end - (n + 1))) ≡ out ++ filter g (count_from n (end - n))
  count_taken out more below passes made = taken g n (count_from (n + 1) (end - (n + 1))) out more passes made ∙ ap (λ l. out ++ filter g l) (sym (next n end below))

  pub count_passed : (out : List ℕ) → n < end → g n ≡ false → out ++ filter g (count_from (n + 1) (end - (n + 1))) ≡ out ++ filter g (count_from n (end - n))
  count_passed out below fails = passed g n (count_from (n + 1) (end - (n + 1))) out fails ∙ ap (λ l. out ++ filter g l) (sym (next n end below))

  pub count_done : (out : List ℕ) → end ≤ n → out ≡ out ++ filter g (count_from n (end - n))
  count_done out past = sym (ap (λ (l : List ℕ). out ++ filter g l) (none_left n end past) ∙ append-nil out)

  -- whether one does
  pub any_found : n < end → g n ≡ true → list_any g (count_from n (end - n)) ≡ true
  any_found below passes = ap (list_any g) (next n end below) ∙ ap (λ b. b || list_any g (count_from (n + 1) (end - (n + 1)))) passes

  pub any_past : n < end → g n ≡ false → list_any g (count_from n (end - n)) ≡ list_any g (count_from (n + 1) (end - (n + 1)))
  any_past below fails = ap (list_any g) (next n end below) ∙ ap (λ b. b || list_any g (count_from (n + 1) (end - (n + 1)))) fails

  pub any_end : end ≤ n → list_any g (count_from n (end - n)) ≡ false
  any_end past = ap (list_any g) (none_left n end past)

module _ {X : Type 0} (f : ℕ → X) (n end : ℕ) where
  -- what is made for each number
  pub map_next : (out more : List X) → n < end → more ≡ out ++ f n ∷ [] → more ++ map f (count_from (n + 1) (end - (n + 1))) ≡ out ++ map f (count_from n (end - n))
  map_next out more below made =
      ap (λ (l : List X). l ++ map f (count_from (n + 1) (end - (n + 1)))) made
      ∙ append_assoc out (f n ∷ []) (map f (count_from (n + 1) (end - (n + 1))))
      ∙ ap (λ (l : List ℕ). out ++ map f l) (sym (next n end below))

  pub map_done : (out : List X) → end ≤ n → out ≡ out ++ map f (count_from n (end - n))
  map_done out past = sym (ap (λ (l : List ℕ). out ++ map f l) (none_left n end past) ∙ append-nil out)

module _ (n end : ℕ) where
  -- the numbers themselves
  pub plain_next : (out more : List ℕ) → n < end → more ≡ out ++ n ∷ [] → more ++ count_from (n + 1) (end - (n + 1)) ≡ out ++ count_from n (end - n)
  plain_next out more below made =
      ap (λ (l : List ℕ). l ++ count_from (n + 1) (end - (n + 1))) made
      ∙ append_assoc out (n ∷ []) (count_from (n + 1) (end - (n + 1)))
      ∙ ap (λ (l : List ℕ). out ++ l) (sym (next n end below))

  pub plain_done : (out : List ℕ) → end ≤ n → out ≡ out ++ count_from n (end - n)
  plain_done out past = sym (ap (λ (l : List ℕ). out ++ l) (none_left n end past) ∙ append-nil out)
