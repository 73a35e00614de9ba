-- The pages with an entry, as a sort of the keys gives them.
use Rattle.std.proofs.Common.{◌≡◌, ◌≢◌, ℕ, zero, suc, ◌+◌, ◌*◌, ◌/◌, ◌%◌, ◌<◌, ◌≤◌, ◌&&◌, ◌||◌, nat_eq, nat_lt, Bool, true, false, cond, Option, Some, None, is_some, List, [], ◌∷◌, length, get_or, refl, ap, sym, ◌∙◌, subst, arith}
use Rattle.std.specs.Prelude.{⊤}
use Rattle.std.proofs.lemmas.Bool.Decides.{nat_tests}
use Rattle.std.proofs.lemmas.List.Sorted.{list_any-IsPermutation}
use Rattle.std.proofs.lemmas.Map.Keys.{IsDistinct-IsPermutation, apart_from_distinct, ge_from_not_lt}
use Rattle.std.proofs.lemmas.Map.Made.{is_some-lookup}
use Rattle.std.proofs.lemmas.Map.Views.{any-filter_same}
use Rattle.std.specs.List.{filter, list_any, IsDistinct}
use Rattle.std.specs.List.Sorted.{IsPermutation, IsSorted, IsStrictlyIncreasing}
use Rattle.std.specs.Map.{keys_of}
use Rattle.std.specs.Ordering.{nat_cmp}
use Rattle.node_rules.specs.Words.{pick}
use Rattle.node_rules.specs.LockTable.{pages_from, pages_of}
use Rattle.lock_table.specs.Tables.{TableView, IsPageOf, FitsConfig, found, pages_made}
use Rattle.lock_table.proofs.Pages.{pages_first}
use Rattle.lock_table.proofs.Places.{page_of_place, low_place}

-- numbers that rise, from `low` on
abbrev Rises : ℕ → List ℕ → Type 0
Rises low [] = ⊤
Rises low (x ∷ xs) = (low ≤ x) × Rises (x + 1) xs

rises_lower : (low m : ℕ) (xs : List ℕ) → low ≤ m → Rises m xs → Rises low xs
rises_lower low m [] less rises = tt
rises_lower low m (x ∷ xs) less rises = let from = rises.0 in (omega (arith, less, from), rises.1)

rises_filter : (f : ℕ → Bool) (low : ℕ) (xs : List ℕ) → Rises low xs → Rises low (filter f xs)
rises_filter f low [] rises = tt
rises_filter f low (x ∷ xs) rises = by (f x) (rises_filter f (x + 1) xs rises.1)
  where
    by : (b : Bool) → Rises (x + 1) (filter f xs) → Rises low (cond b (x ∷ filter f xs) (filter f xs))
    by true rest = (rises.0, rest)
    by false rest = let from = rises.0 in rises_lower low (x + 1) (filter f xs) (omega (arith, from)) rest

rises_pages : (n step p low end : ℕ) → 1 ≤ step → low ≤ p → Rises low (pages_from n step p end)
unfolding pages_from
rises_pages zero step p low end some less = tt
rises_pages (suc n) step p low end some less = by (nat_lt p end) (rises_pages n step (p + step) (p + 1) end some (omega (arith, some)))
  where
    by : (b : Bool) → Rises (p + 1) (pages_from n step (p + step) end) → Rises low (pick b (p ∷ pages_from n step (p + step) end) [])
    by true rest = (less, rest)
    by false rest = tt

rises_from : (low x : ℕ) (xs : List ℕ) → IsStrictlyIncreasing (x ∷ xs) → low ≤ x → Rises low (x ∷ xs)
rises_from low x [] up less = (less, tt)
rises_from low x (y ∷ ys) up less =
    let first : x < y = up 0 (omega arith) in
    (less, rises_from (x + 1) y ys (λ k within. let e : suc k + 1 ≡ suc (k + 1) = omega arith in subst (λ n. get_or (y ∷ ys) k 0 < get_or (x ∷ y ∷ ys) n 0) e (up (suc k) (omega arith))) (omega (arith, first)))

rises_all : (xs : List ℕ) → IsStrictlyIncreasing xs → Rises 0 xs
rises_all [] up = tt
rises_all (x ∷ xs) up = rises_from 0 x xs up (omega arith)

-- sorted numbers that differ rise
increasing : (xs : List ℕ) → IsSorted nat_cmp xs → IsDistinct nat_eq xs → IsStrictlyIncreasing xs
increasing xs sorted apart k within =
    let up : get_or xs k 0 ≤ get_or xs (k + 1) 0 = ge_from_not_lt (get_or xs (k + 1) 0) (get_or xs k 0) (sorted k 0 (omega arith) within) in
    let other : nat_eq (get_or xs k 0) (get_or xs (k + 1) 0) ≡ false = apart_from_distinct nat_eq xs k (k + 1) 0 apart (omega arith) within in
    above (get_or xs k 0) (get_or xs (k + 1) 0) up other
  where
    above : (a b : ℕ) → a ≤ b → nat_eq a b ≡ false → a < b
    above a b up other = grind (arith, nat_tests)

-- a number below all of them is none of them
none_below : (q low : ℕ) (xs : List ℕ) → q < low → Rises low xs → list_any (nat_eq q) xs ≡ false
none_below q low [] less rises = refl
none_below q low (x ∷ xs) less rises =
    let from : low ≤ x = rises.0 in
    let rest : list_any (nat_eq q) xs ≡ false = none_below q (x + 1) xs (omega (arith, less, from)) rises.1 in
    ap (λ b. b || list_any (nat_eq q) xs) (other q x (omega (arith, less, from))) ∙ rest
  where
    other : (q x : ℕ) → q < x → nat_eq q x ≡ false
    other q x less = grind (arith, nat_tests)

first_any : (x : ℕ) (xs : List ℕ) → list_any (nat_eq x) (x ∷ xs) ≡ true
first_any x xs = ap (λ b. b || list_any (nat_eq x) xs) (self x)
  where
    self : (x : ℕ) → nat_eq x x ≡ true
    self x = grind (arith, nat_tests)

not_below : (x y : ℕ) (xs ys : List ℕ) → Rises y (y ∷ ys) → list_any (nat_eq x) (x ∷ xs) ≡ list_any (nat_eq x) (y ∷ ys) → x < y → ⊥
not_below x y xs ys rises same less =
    let bad : true ≡ false = sym (first_any x xs) ∙ (same ∙ none_below x y (y ∷ ys) less rises) in
    absurd (cc)

-- two lists that rise and have the same numbers are the same
same_numbers : (low : ℕ) (xs ys : List ℕ) → Rises low xs → Rises low ys → ((q : ℕ) → list_any (nat_eq q) xs ≡ list_any (nat_eq q) ys) → xs ≡ ys
same_numbers low [] [] left right same = refl
same_numbers low [] (y ∷ ys) left right same = let bad : false ≡ true = same y ∙ first_any y ys in absurd (cc)
same_numbers low (x ∷ xs) [] left right same = let bad : true ≡ false = sym (first_any x xs) ∙ same x in absurd (cc)
same_numbers low (x ∷ xs) (y ∷ ys) left right same =
    let here : x ≡ y = equal x y (not_below x y xs ys (omega arith, right.1) (same x)) (not_below y x ys xs (omega arith, left.1) (sym (same y))) in
    let later : Rises (x + 1) ys = subst (λ k. Rises (k + 1) ys) (sym here) right.1 in
    let rest : xs ≡ ys = same_numbers (x + 1) xs ys left.1 later
    (λ q. tails q (nat_eq q x) refl later (same q ∙ ap (λ k. nat_eq q k || list_any (nat_eq q) ys) (sym here))) in
    λ i. here i ∷ rest i
  where
    equal : (x y : ℕ) → (x < y → ⊥) → (y < x → ⊥) → x ≡ y
    equal x y one two = grind arith

    tails : (q : ℕ) (b : Bool) → nat_eq q x ≡ b → Rises (x + 1) ys → (nat_eq q x || list_any (nat_eq q) xs) ≡ (nat_eq q x || list_any (nat_eq q) ys)
        → list_any (nat_eq q) xs ≡ list_any (nat_eq q) ys
    tails q true is later both =
        let low : q < x + 1 = at q x is in
        none_below q (x + 1) xs low left.1 ∙ sym (none_below q (x + 1) ys low later)
      where
        at : (q x : ℕ) → nat_eq q x ≡ true → q < x + 1
        at q x is = grind (arith, nat_tests)
    tails q false is later both =
        sym (ap (λ b. b || list_any (nat_eq q) xs) is) ∙ (both ∙ ap (λ b. b || list_any (nat_eq q) ys) is)

-- a page of a partition is among its pages
pub page_listed : (step end page : ℕ) (n j p : ℕ) → page ≡ p + step * j → j < n → page < end → 1 ≤ step
    → list_any (nat_eq page) (pages_from n step p end) ≡ true
page_listed step end page zero j p at fuel below some = absurd (omega arith)
page_listed step end page (suc n) zero p at fuel below some =
    let here : page ≡ p = omega arith in
    let within : p < end = omega arith in
    ap (λ l. list_any (nat_eq page) l) (pages_first n step p end within)
    ∙ (ap (λ k. nat_eq page k || list_any (nat_eq page) (pages_from n step (p + step) end)) (sym here) ∙ first_any page (pages_from n step (p + step) end))
page_listed step end page (suc n) (suc j) p at fuel below some =
    let next : page ≡ (p + step) + step * j = omega arith in
    let within : p < end = omega arith in
    ap (λ l. list_any (nat_eq page) l) (pages_first n step p end within)
    ∙ or_true (nat_eq page p) _ (page_listed step end page n j (p + step) next (omega arith) below some)
  where
    or_true : (a b : Bool) → b ≡ true → (a || b) ≡ true
    or_true true b is = refl
    or_true false b is = is

-- the keys of a table's entries, sorted, are its pages that have one
pub keys_listed : (t : TableView) (ps : List ℕ) → FitsConfig t → IsDistinct nat_eq (keys_of t.entries) → IsPermutation (keys_of t.entries) ps → IsSorted nat_cmp ps
    → ps ≡ pages_made t
keys_listed t ps fits apart moved sorted =
    same_numbers 0 ps (pages_made t)
    (rises_all ps (increasing ps sorted (IsDistinct-IsPermutation nat_eq flips (keys_of t.entries) ps moved apart)))
    (rises_filter (λ p. is_some (found t p)) 0 (pages_of t.config t.partition) (rises_pages t.config.pages t.config.nodes t.partition 0 t.config.pages fits.limits.some_nodes (omega arith)))
    (λ q. sym (list_any-IsPermutation (nat_eq q) (keys_of t.entries) ps moved) ∙ (sym (is_some-lookup (nat_eq q) t.entries)
    ∙ (by q (is_some (found t q)) refl ∙ sym (any-filter_same (nat_eq q) (λ p. is_some (found t p)) (is_some (found t q)) (λ k same. ap (λ p. is_some (found t p)) (sym (number q k same))) (pages_of t.config t.partition)))))
  where
    flips : (x y : ℕ) → nat_eq x y ≡ nat_eq y x
    flips x y = grind (arith, nat_tests)

    number : (q k : ℕ) → nat_eq q k ≡ true → q ≡ k
    number q k same = grind (arith, nat_tests)

    by : (q : ℕ) (b : Bool) → is_some (found t q) ≡ b → is_some (found t q) ≡ (is_some (found t q) && list_any (nat_eq q) (pages_of t.config t.partition))
    by q false none = none ∙ sym (ap (λ b. b && list_any (nat_eq q) (pages_of t.config t.partition)) none)
    by q true there =
        let mine = fits.own q there in
        there
        ∙ sym (ap (λ b. b && list_any (nat_eq q) (pages_of t.config t.partition)) there
        ∙ page_listed t.config.nodes t.config.pages q t.config.pages (q / t.config.nodes) t.partition (page_of_place t.config t.partition q mine.own) (low_place t q mine) mine.below fits.limits.some_nodes)
