-- Lists with an item in the place of another, tests, and the pages of a partition.
use Rattle.std.proofs.Common.{◌≡◌, ℕ, zero, suc, ◌+◌, ◌*◌, ◌%◌, ◌<◌, ◌≤◌, ◌==◌, nat_lt, Bool, true, false, List, [], ◌∷◌, length, slice_index_or, slice_set, refl, ap, ◌∙◌, arith}
use Rattle.std.specs.Prelude.{⊤}
use Rattle.std.proofs.lemmas.Bool.Decides.{nat_tests}
use Rattle.std.proofs.lemmas.Nat.{mod-mul-add}
use Rattle.std.specs.List.{AllByRecursion}
use Rattle.pcl_base.specs.Limits.{Sizes}
use Rattle.node_rules.specs.Words.{pick}
use Rattle.node_rules.specs.LockTable.{pages_from, pages_of}
use Rattle.node_rules.specs.NodeState.{partition}

pub equal : (m n : ℕ) → (m == n) ≡ true → m ≡ n
equal m n e = grind (arith, nat_tests)

pub other : (m n : ℕ) → (m == n) ≡ false → m ≡ n → ⊥
other m n e same = grind (arith, nat_tests)

pub not_equal : (m n : ℕ) → (m ≡ n → ⊥) → (m == n) ≡ false
not_equal m n no_path = by (m == n) refl
  where
    by : (b : Bool) → (m == n) ≡ b → b ≡ false
    by true e = absurd (no_path (equal m n e))
    by false e = refl

pub more_other : (m n : ℕ) → m < n → n ≡ m → ⊥
more_other m n less same = absurd (omega (arith, less, same))

module _ {X : Type 0} where
  pub set_here : (xs : List X) (i : ℕ) (x d : X) → i < length xs → slice_index_or (slice_set xs i x) i d ≡ x
  set_here [] i x d low = absurd (omega (arith, low))
  set_here (y ∷ ys) zero x d low = refl
  set_here (y ∷ ys) (suc i) x d low = set_here ys i x d (omega (arith, low))

  pub set_other : (xs : List X) (i j : ℕ) (x d : X) → (j ≡ i → ⊥) → slice_index_or (slice_set xs i x) j d ≡ slice_index_or xs j d
  set_other [] i j x d apart = refl
  set_other (y ∷ ys) zero zero x d apart = absurd (apart refl)
  set_other (y ∷ ys) zero (suc j) x d apart = refl
  set_other (y ∷ ys) (suc i) zero x d apart = refl
  set_other (y ∷ ys) (suc i) (suc j) x d apart = set_other ys i j x d (λ e. apart (ap suc e))

  pub set_twice : (xs : List X) (i : ℕ) (x y : X) → slice_set (slice_set xs i x) i y ≡ slice_set xs i y
  set_twice [] i x y = refl
  set_twice (z ∷ zs) zero x y = refl
  set_twice (z ∷ zs) (suc i) x y = ap (λ ws. z ∷ ws) (set_twice zs i x y)

  pub set_same : (xs : List X) (i : ℕ) (d : X) → slice_set xs i (slice_index_or xs i d) ≡ xs
  set_same [] i d = refl
  set_same (x ∷ xs) zero d = refl
  set_same (x ∷ xs) (suc i) d = ap (λ ws. x ∷ ws) (set_same xs i d)

  pub set_length : (xs : List X) (i : ℕ) (x : X) → length (slice_set xs i x) ≡ length xs
  set_length [] i x = refl
  set_length (y ∷ ys) zero x = refl
  set_length (y ∷ ys) (suc i) x = ap suc (set_length ys i x)

  pub all_weaker : (P Q : X → Type 0) → ((x : X) → P x → Q x) → (xs : List X) → AllByRecursion P xs → AllByRecursion Q xs
  all_weaker P Q f [] all = tt
  all_weaker P Q f (x ∷ xs) all = (f x all.0, all_weaker P Q f xs all.1)

-- each page of a partition is of that partition
pages_in : (n w q p a end : ℕ) → q < w → p ≡ a * w + q → AllByRecursion (λ x. x % w ≡ q) (pages_from n w p end)
unfolding pages_from
pages_in zero w q p a end low is = tt
pages_in (suc n) w q p a end low is = by (nat_lt p end) (pages_in n w q (p + w) (suc a) end low next)
  where
    next : p + w ≡ suc a * w + q
    next = grind arith

    here : p % w ≡ q
    here = ap (λ x. x % w) is ∙ mod-mul-add a w q low

    by : (b : Bool) → AllByRecursion (λ x. x % w ≡ q) (pages_from n w (p + w) end) → AllByRecursion (λ x. x % w ≡ q) (pick b (p ∷ pages_from n w (p + w) end) [])
    by true rest = (here, rest)
    by false rest = tt

pub pages_are_of : (c : Sizes) (q : ℕ) → q < c.nodes → AllByRecursion (λ p. partition c p ≡ q) (pages_of c q)
pages_are_of c q low = pages_in c.pages c.nodes q q 0 c.pages low (omega arith)

-- pages rise by number, from `low` on
abbrev pub AreRising : ℕ → List ℕ → Type 0
AreRising low [] = ⊤
AreRising low (p ∷ ps) = (low ≤ p) × AreRising (p + 1) ps

rising_from : (n w p low end : ℕ) → 0 < w → low ≤ p → AreRising low (pages_from n w p end)
unfolding pages_from
rising_from zero w p low end some less = tt
rising_from (suc n) w p low end some less = by (nat_lt p end) (rising_from n w (p + w) (p + 1) end some (omega (arith, some)))
  where
    by : (b : Bool) → AreRising (p + 1) (pages_from n w (p + w) end) → AreRising low (pick b (p ∷ pages_from n w (p + w) end) [])
    by true rest = (less, rest)
    by false rest = tt

pub pages_rise : (c : Sizes) (q : ℕ) → q < c.nodes → AreRising 0 (pages_of c q)
pages_rise c q low = rising_from c.pages c.nodes q 0 c.pages (omega (arith, low)) (omega arith)
