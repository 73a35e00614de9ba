-- Lists that are filtered in loops.
use Rattle.std.proofs.Common.{◌≡◌, ℕ, suc, ◌+◌, ◌-◌, ◌<◌, ◌≤◌, Bool, true, false, cond, List, [], ◌∷◌, ◌++◌, length, get_or, drop, ap, sym, ◌∙◌, arith}
use Rattle.std.proofs.lemmas.List.{append_assoc, append-nil}
use Rattle.std.proofs.Math.ListN.{drop_of_length-le}
use Rattle.std.specs.List.{filter}
use Rattle.run_rules.specs.Views.{count_from}
use Rattle.install_plans.proofs.Settled.{front}

-- an item that passes, and one that doesn't
taken : {X : Type 0} (g : X → Bool) (x : X) (xs out more : List X) → g x ≡ true → more ≡ out ++ x ∷ [] → more ++ filter g xs ≡ out ++ filter g (x ∷ xs)
taken g x xs out more passes made =
    ap (λ l. l ++ filter g xs) made
    ∙ (append_assoc out (x ∷ []) (filter g xs) ∙ ap (λ b. out ++ cond b (x ∷ filter g xs) (filter g xs)) (sym passes))

passed : {X : Type 0} (g : X → Bool) (x : X) (xs out : List X) → g x ≡ false → out ++ filter g xs ≡ out ++ filter g (x ∷ xs)
passed g x xs out fails = ap (λ b. out ++ cond b (x ∷ filter g xs) (filter g xs)) (sym fails)

module _ (g : ℕ → Bool) (n end : ℕ) where
  next : n < end → count_from n (end - n) ≡ n ∷ count_from (n + 1) (end - (n + 1))
  unfolding count_from
  next below =
      let rest : end - n ≡ suc (end - (n + 1)) = omega arith in
      ap (count_from n) rest

  pub count_taken : (out more : List ℕ) → n < end → g n ≡ true → more ≡ out ++ n ∷ []
      → more ++ filter g (count_from (n + 1) (end - (n + 1))) ≡ out ++ filter g (count_from n (end - n))
  count_taken out more below passes made = taken g n (count_from (n + 1) (end - (n + 1))) out more passes made ∙ ap (λ l. out ++ filter g l) (sym (next below))

  pub count_passed : (out : List ℕ) → n < end → g n ≡ false → out ++ filter g (count_from (n + 1) (end - (n + 1))) ≡ out ++ filter g (count_from n (end - n))
  count_passed out below fails = passed g n (count_from (n + 1) (end - (n + 1))) out fails ∙ ap (λ l. out ++ filter g l) (sym (next below))

  pub count_done : (out : List ℕ) → end ≤ n → out ≡ out ++ filter g (count_from n (end - n))
  unfolding count_from
  count_done out past =
      let none : end - n ≡ 0 = omega arith in
      sym (ap (λ k. out ++ filter g (count_from n k)) none ∙ append-nil out)

module _ {X : Type 0} (g : X → Bool) (xs : List X) (i : ℕ) (d : X) where
  pub item_taken : (out more : List X) → i < length xs → g (get_or xs i d) ≡ true → more ≡ out ++ get_or xs i d ∷ []
      → more ++ filter g (drop (i + 1) xs) ≡ out ++ filter g (drop i xs)
  item_taken out more within passes made = taken g (get_or xs i d) (drop (i + 1) xs) out more passes made ∙ ap (λ l. out ++ filter g l) (sym (front xs i d within))

  pub item_passed : (out : List X) → i < length xs → g (get_or xs i d) ≡ false → out ++ filter g (drop (i + 1) xs) ≡ out ++ filter g (drop i xs)
  item_passed out within fails = passed g (get_or xs i d) (drop (i + 1) xs) out fails ∙ ap (λ l. out ++ filter g l) (sym (front xs i d within))

pub items_done : {X : Type 0} (g : X → Bool) (xs : List X) (i : ℕ) (out : List X) → length xs ≤ i → out ≡ out ++ filter g (drop i xs)
items_done g xs i out past = sym (ap (λ l. out ++ filter g l) (drop_of_length-le xs past) ∙ append-nil out)
