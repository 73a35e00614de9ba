-- How often a number is in a list, and lists in which each number is at most once.
use Rattle.std.proofs.Common.{◌≡◌, ℕ, zero, suc, ◌+◌, ◌<◌, ◌≤◌, Bool, true, false, cond, eqb, List, [], ◌∷◌, ◌++◌, length, refl, arith}
use Rattle.std.proofs.lemmas.Bool.Decides.{nat_tests}
use Rattle.std.proofs.lemmas.Map.Steps.{length-le_from_distinct_below}
use Rattle.std.specs.List.{AllByRecursion, IsDistinct, list_any, range_with_len}
use Rattle.frame_pool.specs.Frames.{times}

pub times-append : (n : ℕ) (xs ys : List ℕ) → times n (xs ++ ys) ≡ times n xs + times n ys
unfolding times
times-append n [] ys = omega arith
times-append n (x ∷ xs) ys = omega (arith, times-append n xs ys)

pub times-push : (n : ℕ) (xs : List ℕ) (m : ℕ) → times n (xs ++ m ∷ []) ≡ times n xs + cond (eqb n m) 1 0
unfolding times
times-push n [] m = omega arith
times-push n (x ∷ xs) m = omega (arith, times-push n xs m)

pub times-push_same : (n : ℕ) (xs : List ℕ) → times n (xs ++ n ∷ []) ≡ times n xs + 1
times-push_same n xs = grind (arith, nat_tests, times-push n xs n)

apart_from_absent : (n : ℕ) (xs : List ℕ) → times n xs ≡ 0 → AllByRecursion (λ y. eqb n y ≡ false) xs
unfolding times
apart_from_absent n [] h = tt
apart_from_absent n (x ∷ xs) h = (grind (arith, nat_tests), apart_from_absent n xs (omega arith))

distinct_from_once : (xs : List ℕ) → ((n : ℕ) → times n xs ≤ 1) → IsDistinct eqb xs
unfolding times IsDistinct
distinct_from_once [] h = tt
distinct_from_once (x ∷ xs) h =
    (apart_from_absent x xs (grind (arith, nat_tests, h x)), distinct_from_once xs (λ n. omega (arith, h n)))

pub some_from_any : (n : ℕ) (xs : List ℕ) → list_any (eqb n) xs ≡ true → 0 < times n xs
unfolding times
some_from_any n [] h = cc
some_from_any n (x ∷ xs) h = some_case n x xs h (eqb n x) refl (λ t. some_from_any n xs t)
  where
    some_case : (n x : ℕ) (xs : List ℕ) → list_any (eqb n) (x ∷ xs) ≡ true → (b : Bool) → eqb n x ≡ b → (list_any (eqb n) xs ≡ true → 0 < times n xs) → 0 < cond (eqb n x) 1 0 + times n xs
    some_case n x xs h true e rest = rw e (omega arith)
    some_case n x xs h false e rest = rw e (omega (arith, rest (rw e at h)))

pub length-le_from_once : (xs : List ℕ) (count : ℕ) → ((n : ℕ) → times n xs ≤ 1) → ((n : ℕ) → count ≤ n → times n xs ≡ 0) → length xs ≤ count
length-le_from_once xs count once below =
    length-le_from_distinct_below xs count (distinct_from_once xs once) (λ q h. below_case q (some_from_any q xs h))
  where
    below_case : (q : ℕ) → 0 < times q xs → q < count
    below_case q h = grind (arith, below q)

pub times-range_below : (n a count : ℕ) → n < a → times n (range_with_len a count) ≡ 0
unfolding times
times-range_below n a zero h = refl
times-range_below n a (suc count) h = grind (arith, nat_tests, times-range_below n (a + 1) count (omega arith))

pub times-range_above : (n a count : ℕ) → a + count ≤ n → times n (range_with_len a count) ≡ 0
unfolding times
times-range_above n a zero h = refl
times-range_above n a (suc count) h = grind (arith, nat_tests, times-range_above n (a + 1) count (omega arith))

pub times-range : (n a count : ℕ) → times n (range_with_len a count) ≤ 1
unfolding times
times-range n a zero = omega arith
times-range n a (suc count) = range_case n a count (eqb n a) refl (times-range n (a + 1) count)
  where
    range_case : (n a count : ℕ) (b : Bool) → eqb n a ≡ b → times n (range_with_len (a + 1) count) ≤ 1 → cond (eqb n a) 1 0 + times n (range_with_len (a + 1) count) ≤ 1
    range_case n a count true e h = rw e (let at : n < a + 1 = grind (arith, nat_tests) in omega (arith, times-range_below n (a + 1) count at))
    range_case n a count false e h = rw e (omega arith)
