-- Facts of lists: of all their items, and of one at a place.
use Rattle.std.proofs.Common.{◌≡◌, refl, ap, subst, ℕ, zero, suc, ◌+◌, ◌<◌, ◌&&◌, ◌||◌, Bool, true, false, List, [], ◌∷◌, length, map, replicate, slice_index_or, arith}
use Rattle.std.specs.Prelude.{⊤}
use Rattle.std.specs.List.{AllByRecursion, list_any}
use Rattle.run_rules.specs.Views.{count_from}

-- two tests are passed
pub both_true : (a b : Bool) → a ≡ true → b ≡ true → a && b ≡ true
both_true true true e f = refl
both_true true false e f = f
both_true false b e f = e

-- neither of two tests is passed
pub or_left : (a b : Bool) → a || b ≡ false → a ≡ false
or_left true b e = absurd (cc)
or_left false b e = refl

pub or_right : (a b : Bool) → a || b ≡ false → b ≡ false
or_right true b e = absurd (cc)
or_right false b e = e

module _ {X : Type 0} where
  pub all_any : (xs : List X) → AllByRecursion (λ x. ⊤) xs
  all_any [] = tt
  all_any (x ∷ xs) = (tt, all_any xs)

  -- all places of a list of the same item
  pub look_same : (P : X → Type 0) (n i : ℕ) (x d : X) → P x → P d → P (slice_index_or (replicate n x) i d)
  look_same P zero i x d here past = past
  look_same P (suc n) zero x d here past = here
  look_same P (suc n) (suc i) x d here past = look_same P n i x d here past

  pub all_same : (P : X → Type 0) (n : ℕ) (x : X) → P x → AllByRecursion P (replicate n x)
  all_same P zero x here = tt
  all_same P (suc n) x here = (here, all_same P n x here)

  -- the places of a list that is made from numbers in a row
  pub look_counted : (Q : ℕ → X → Type 0) (d : X) (f : ℕ → X) (n a i : ℕ) → ((j : ℕ) → j < n → Q j (f (a + j))) → ((j : ℕ) → Q j d) → Q i (slice_index_or (map f (count_from a n)) i d)
  unfolding count_from
  look_counted Q d f zero a i here past = past i
  look_counted Q d f (suc n) a zero here past = subst (λ (j : ℕ). Q 0 (f j)) (omega arith) (here 0 (omega arith))
  look_counted Q d f (suc n) a (suc i) here past =
      look_counted (λ j. Q (suc j)) d f n (a + 1) i (λ j low. subst (λ (k : ℕ). Q (suc j) (f k)) (omega arith) (here (suc j) (omega (arith, low)))) (λ j. past (suc j))

pub length_counted : (a n : ℕ) → length (count_from a n) ≡ n
unfolding count_from
length_counted a zero = refl
length_counted a (suc n) = ap suc (length_counted (a + 1) n)

-- a test that no number in a row passes
none_counted : (p : ℕ → Bool) (n a i : ℕ) → list_any p (count_from a n) ≡ false → i < n → p (a + i) ≡ false
unfolding count_from
none_counted p zero a i none low = absurd (omega (arith, low))
none_counted p (suc n) a zero none low = subst (λ (k : ℕ). p k ≡ false) (omega arith) (or_left (p a) (list_any p (count_from (a + 1) n)) none)
none_counted p (suc n) a (suc i) none low =
    subst (λ (k : ℕ). p k ≡ false) (omega arith) (none_counted p n (a + 1) i (or_right (p a) (list_any p (count_from (a + 1) n)) none) (omega (arith, low)))

pub none_first : (p : ℕ → Bool) (n i : ℕ) → list_any p (count_from 0 n) ≡ false → i < n → p i ≡ false
none_first p n i none low = subst (λ (k : ℕ). p k ≡ false) (omega arith) (none_counted p n 0 i none low)

-- what holds of all numbers in a row
pub all_counted : (P : ℕ → Type 0) (n a : ℕ) → ((i : ℕ) → i < n → P (a + i)) → AllByRecursion P (count_from a n)
unfolding count_from
all_counted P zero a f = tt
all_counted P (suc n) a f = (
  subst P (omega arith) (f 0 (omega arith)),
  all_counted P n (a + 1) (λ i low. subst P (omega arith) (f (suc i) (omega (arith, low)))),
)
