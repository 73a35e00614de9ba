-- A further run among runs, place by place.
use Rattle.std.proofs.Common.{◌≡◌, ℕ, zero, suc, ◌+◌, ◌<◌, ◌≤◌, nat_lt, min, max, true, false, List, [], ◌∷◌, ◌++◌, length, take, drop, slice_index_or, refl, ap, sym, ◌∙◌, arith}
use Rattle.std.proofs.lemmas.Bool.Decides.{nat_tests}
use Rattle.std.specs.Prelude.{insert, remove}
use Rattle.node_rules.specs.Words.{pick}
use Rattle.node_rules.specs.NodeState.{Run, cover}

-- what is behind a place, and what is before the next one
drop_next : (n : ℕ) (xs : List Run) (d : Run) → n < length xs → drop n xs ≡ slice_index_or xs n d ∷ drop (suc n) xs
drop_next n [] d lt = absurd (omega (arith, lt))
drop_next zero (x ∷ xs) d lt = refl
drop_next (suc n) (x ∷ xs) d lt = drop_next n xs d (omega (arith, lt))

take_next : (n : ℕ) (xs : List Run) (d : Run) (ys : List Run) → n < length xs → take n xs ++ slice_index_or xs n d ∷ ys ≡ take (suc n) xs ++ ys
take_next n [] d ys lt = absurd (omega (arith, lt))
take_next zero (x ∷ xs) d ys lt = refl
take_next (suc n) (x ∷ xs) d ys lt = ap (λ l. x ∷ l) (take_next n xs d ys (omega (arith, lt)))

-- without the one at a place
take_removed : (n : ℕ) (xs : List Run) → n < length xs → take n (remove xs n) ≡ take n xs
take_removed n [] lt = absurd (omega (arith, lt))
take_removed zero (x ∷ xs) lt = refl
take_removed (suc n) (x ∷ xs) lt = ap (λ l. x ∷ l) (take_removed n xs (omega (arith, lt)))

drop_removed : (n : ℕ) (xs : List Run) → n < length xs → drop n (remove xs n) ≡ drop (suc n) xs
drop_removed n [] lt = absurd (omega (arith, lt))
drop_removed zero (x ∷ xs) lt = refl
drop_removed (suc n) (x ∷ xs) lt = drop_removed n xs (omega (arith, lt))

pub all_taken : (n : ℕ) (xs : List Run) (ys : List Run) → length xs ≤ n → take n xs ++ ys ≡ xs ++ ys
all_taken zero [] ys le = refl
all_taken zero (x ∷ xs) ys le = absurd (omega (arith, le))
all_taken (suc n) [] ys le = refl
all_taken (suc n) (x ∷ xs) ys le = ap (λ l. x ∷ l) (all_taken n xs ys (omega (arith, le)))

pub none_left : (n : ℕ) (xs : List Run) → length xs ≤ n → drop n xs ≡ []
none_left zero [] le = refl
none_left zero (x ∷ xs) le = absurd (omega (arith, le))
none_left (suc n) [] le = refl
none_left (suc n) (x ∷ xs) le = none_left n xs (omega (arith, le))

-- the first run ends before the further one
cover_first : (r : Run) (rs : List Run) (from to : ℕ) → nat_lt r.to from ≡ true → cover (r ∷ rs) from to ≡ r ∷ cover rs from to
unfolding cover
cover_first r rs from to e = ap (λ b. pick b (r ∷ cover rs from to) (pick (nat_lt to r.from) (record { from = from; to = to } ∷ r ∷ rs) (cover rs (min r.from from) (max r.to to)))) e

-- it begins behind it
cover_before : (r : Run) (rs : List Run) (from to : ℕ) → nat_lt r.to from ≡ false → nat_lt to r.from ≡ true → cover (r ∷ rs) from to ≡ record { from = from; to = to } ∷ r ∷ rs
unfolding cover
cover_before r rs from to e f =
    ap (λ b. pick b (r ∷ cover rs from to) (pick (nat_lt to r.from) (record { from = from; to = to } ∷ r ∷ rs) (cover rs (min r.from from) (max r.to to)))) e
    ∙ ap (λ b. pick b (record { from = from; to = to } ∷ r ∷ rs) (cover rs (min r.from from) (max r.to to))) f

-- they touch
cover_joined : (r : Run) (rs : List Run) (from to : ℕ) → nat_lt r.to from ≡ false → nat_lt to r.from ≡ false → cover (r ∷ rs) from to ≡ cover rs (min r.from from) (max r.to to)
unfolding cover
cover_joined r rs from to e f =
    ap (λ b. pick b (r ∷ cover rs from to) (pick (nat_lt to r.from) (record { from = from; to = to } ∷ r ∷ rs) (cover rs (min r.from from) (max r.to to)))) e
    ∙ ap (λ b. pick b (record { from = from; to = to } ∷ r ∷ rs) (cover rs (min r.from from) (max r.to to))) f

cover_none : (from to : ℕ) → cover [] from to ≡ record { from = from; to = to } ∷ []
unfolding cover
cover_none from to = refl

-- the same of the run at a place
pub skipped : (n : ℕ) (xs : List Run) (r : Run) (from to : ℕ) → n < length xs → r ≡ slice_index_or xs n r → r.to < from
    → take (n + 1) xs ++ cover (drop (n + 1) xs) from to ≡ take n xs ++ cover (drop n xs) from to
skipped n xs r from to lt at low =
    let test : nat_lt r.to from ≡ true = grind (arith, nat_tests) in
    let on : n + 1 ≡ suc n = omega arith in
    ap (λ k. take k xs ++ cover (drop k xs) from to) on
    ∙ sym (take_next n xs r (cover (drop (suc n) xs) from to) lt)
    ∙ ap (λ x. take n xs ++ x ∷ cover (drop (suc n) xs) from to) (sym at)
    ∙ ap (λ l. take n xs ++ l) (sym (cover_first r (drop (suc n) xs) from to test))
    ∙ ap (λ x. take n xs ++ cover (x ∷ drop (suc n) xs) from to) at
    ∙ ap (λ l. take n xs ++ cover l from to) (sym (drop_next n xs r lt))

pub put_before : (n : ℕ) (xs : List Run) (r : Run) (from to : ℕ) → n < length xs → r ≡ slice_index_or xs n r → from ≤ r.to → to < r.from
    → insert xs n (record { from = from; to = to }) ≡ take n xs ++ cover (drop n xs) from to
put_before n xs r from to lt at high low =
    let first : nat_lt r.to from ≡ false = grind (arith, nat_tests) in
    let second : nat_lt to r.from ≡ true = grind (arith, nat_tests) in
    ap (λ l. take n xs ++ record { from = from; to = to } ∷ l) (drop_next n xs r lt)
    ∙ ap (λ x. take n xs ++ record { from = from; to = to } ∷ x ∷ drop (suc n) xs) (sym at)
    ∙ ap (λ l. take n xs ++ l) (sym (cover_before r (drop (suc n) xs) from to first second))
    ∙ ap (λ x. take n xs ++ cover (x ∷ drop (suc n) xs) from to) at
    ∙ ap (λ l. take n xs ++ cover l from to) (sym (drop_next n xs r lt))

pub joined_with : (n : ℕ) (xs : List Run) (r : Run) (from to : ℕ) → n < length xs → r ≡ slice_index_or xs n r → from ≤ r.to → r.from ≤ to
    → take n (remove xs n) ++ cover (drop n (remove xs n)) (min r.from from) (max r.to to) ≡ take n xs ++ cover (drop n xs) from to
joined_with n xs r from to lt at high low =
    let first : nat_lt r.to from ≡ false = grind (arith, nat_tests) in
    let second : nat_lt to r.from ≡ false = grind (arith, nat_tests) in
    ap (λ l. l ++ cover (drop n (remove xs n)) (min r.from from) (max r.to to)) (take_removed n xs lt)
    ∙ ap (λ l. take n xs ++ cover l (min r.from from) (max r.to to)) (drop_removed n xs lt)
    ∙ ap (λ l. take n xs ++ l) (sym (cover_joined r (drop (suc n) xs) from to first second))
    ∙ ap (λ x. take n xs ++ cover (x ∷ drop (suc n) xs) from to) at
    ∙ ap (λ l. take n xs ++ cover l from to) (sym (drop_next n xs r lt))

pub put_last : (n : ℕ) (xs : List Run) (from to : ℕ) → length xs ≤ n → xs ++ record { from = from; to = to } ∷ [] ≡ take n xs ++ cover (drop n xs) from to
put_last n xs from to le =
    sym (all_taken n xs (record { from = from; to = to } ∷ []) le)
    ∙ ap (λ l. take n xs ++ l) (sym (cover_none from to))
    ∙ ap (λ l. take n xs ++ cover l from to) (sym (none_left n xs le))
