-- Lists of pages that rise.
use Rattle.std.proofs.Common.{◌≡◌, ℕ, ◌+◌, ◌<◌, ◌≤◌, ◌==◌, ◌||◌, cond, nat_lt, Bool, true, false, List, [], ◌∷◌, length, map, Some, None, refl, ap, sym, subst, ◌∙◌, arith}
use Rattle.std.proofs.lemmas.Bool.Decides.{nat_tests}
use Rattle.std.proofs.lemmas.List.Sums.{length-filter}
use Rattle.std.proofs.lemmas.List.Sorted.{sum_by-IsPermutation, IsNonDecreasingBy-from_sort, IsNonDecreasingBy-drop}
use Rattle.std.specs.Ordering.{nat_cmp}
use Rattle.std.specs.List.{filter, list_any}
use Rattle.std.specs.List.Sorted.{IsPermutation, IsSorted, IsNonDecreasingBy}
use Rattle.pcl_base.specs.declared.lock.Held.{Held}
use Rattle.node_rules.specs.Words.{pick, is_exclusive}
use Rattle.node_rules.specs.OpenTxs.{lock_on}
use Rattle.home_laws.specs.Homes.{AreOnce, is_exclusive_lock}
use Rattle.home_laws.specs.EndLaws.{AreRising}
use Rattle.home_laws.specs.EndNeeds.{AreApart}
use Rattle.home_laws.proofs.Words.{equal, self_test}
use Rattle.home_laws.proofs.Serials.{one_if}
use Rattle.home_laws.proofs.Unpins.{times}
use Rattle.home_laws.proofs.Written.{times_more}

-- pages below the first one aren't there
pub rising_none : (low p : ℕ) (ps : List ℕ) → p < low → AreRising low ps → times p ps ≡ 0
rising_none low p [] below rise = refl
rising_none low p (q ∷ ps) below rise =
    let first : low ≤ q = rise.0 in
    let other : (q == p) ≡ false = grind (arith, nat_tests) in
    ap (λ b. length (cond b (q ∷ filter (λ x. x == p) ps) (filter (λ x. x == p) ps))) other ∙ rising_none (q + 1) p ps (omega arith) rise.1

-- pages that rise are apart
pub rising_apart : (low : ℕ) (ps : List ℕ) → AreRising low ps → AreApart ps
rising_apart low [] rise = tt
rising_apart low (p ∷ ps) rise = (rising_none (p + 1) p ps (omega arith) rise.1, rising_apart (p + 1) ps rise.1)

one_here : (p : ℕ) (ps : List ℕ) → 1 ≤ times p (p ∷ ps)
one_here p ps =
    let self : one_if (p == p) ≡ 1 = ap one_if (self_test p) in
    let count = times_more p p ps in
    omega (arith, self, count)

-- two lists that rise and have the same pages are one
pub rising_same : (low : ℕ) (ps qs : List ℕ) → AreRising low ps → AreRising low qs → ((r : ℕ) → times r ps ≡ times r qs) → ps ≡ qs
rising_same low [] [] left right same = refl
rising_same low [] (q ∷ qs) left right same = let here = one_here q qs in let none = same q in absurd (omega (arith, here, none))
rising_same low (p ∷ ps) [] left right same = let here = one_here p ps in let none = same p in absurd (omega (arith, here, none))
rising_same low (p ∷ ps) (q ∷ qs) left right same =
    by_order (p == q) refl
    (λ first. rising_same (p + 1) ps qs left.1 (subst (λ n. AreRising (n + 1) qs) (sym first) right.1) (λ r. rest r first))
  where
    not_less : (x y : ℕ) (xs ys : List ℕ) → x < y → AreRising (y + 1) ys → times x (x ∷ xs) ≡ times x (y ∷ ys) → ⊥
    not_less x y xs ys less rise count =
        let here = one_here x xs in
        let test : (y == x) ≡ false = grind (arith, nat_tests) in
        let other : one_if (y == x) ≡ 0 = ap one_if test in
        let more = times_more y x ys in
        let none = rising_none (y + 1) x ys (omega arith) rise in
        omega (arith, here, other, more, none, count)

    rest : (r : ℕ) → p ≡ q → times r ps ≡ times r qs
    rest r e =
        let l = times_more p r ps in
        let m = times_more q r qs in
        let first : one_if (p == r) ≡ one_if (q == r) = ap (λ n. one_if (n == r)) e in
        let both = same r in
        omega (arith, l, m, first, both)

    by_less : (b : Bool) → nat_lt p q ≡ b → (p == q) ≡ false → ⊥
    by_less true l e = let less : p < q = grind (arith, nat_tests) in not_less p q ps qs less right.1 (same p)
    by_less false l e = let more : q < p = grind (arith, nat_tests) in not_less q p qs ps more left.1 (sym (same q))

    by_order : (b : Bool) → (p == q) ≡ b → (p ≡ q → ps ≡ qs) → p ∷ ps ≡ q ∷ qs
    by_order true e tail = let first = equal p q e in λ i. first i ∷ tail first i
    by_order false e tail = absurd (by_less (nat_lt p q) refl e)

-- sorted pages that are there once rise
sorted_case : (low p : ℕ) (ps : List ℕ) → low ≤ p → IsNonDecreasingBy (λ (x : ℕ). x) (p ∷ ps) → ((q : ℕ) → times q (p ∷ ps) ≤ 1) → AreRising low (p ∷ ps)
sorted_case low p [] l sorted once = (l, tt)
sorted_case low p (x ∷ xs) l sorted once =
    let step : p ≤ x = sorted 0 1 0 (omega arith) (omega arith) in
    let here = one_here p [] in
    let more = times_more p p (x ∷ xs) in
    let more_still = times_more x p xs in
    let self : one_if (p == p) ≡ 1 = ap one_if (self_test p) in
    let twice : one_if (x == p) ≡ 0 = omega (arith, more, more_still, self, once p) in
    let apart : (x == p) ≡ false = differs (x == p) twice in
    let above : p + 1 ≤ x = grind (arith, nat_tests) in
    (l, sorted_case (p + 1) x xs above (IsNonDecreasingBy-drop (λ (n : ℕ). n) 1 (p ∷ (x ∷ xs)) sorted) (λ q. let count = times_more p q (x ∷ xs) in omega (arith, once q, count)))
  where
    differs : (b : Bool) → one_if b ≡ 0 → b ≡ false
    differs true zero = absurd (omega (arith, zero))
    differs false zero = refl

pub sorted_rise : (ps : List ℕ) → IsSorted nat_cmp ps → ((q : ℕ) → times q ps ≤ 1) → AreRising 0 ps
sorted_rise [] sorted once = tt
sorted_rise (p ∷ ps) sorted once = sorted_case 0 p ps (omega arith) (IsNonDecreasingBy-from_sort (λ (x : ℕ). x) (p ∷ ps) sorted) once

-- another order has each page as often
pub times_permuted : (q : ℕ) (xs ys : List ℕ) → IsPermutation xs ys → times q ys ≡ times q xs
times_permuted q xs ys same =
    length-filter (λ x. x == q) ys ∙ sum_by-IsPermutation (λ (x : ℕ). cond (x == q) 1 0) xs ys same ∙ sym (length-filter (λ x. x == q) xs)

-- whether a page is in a list
pub any_times : (p : ℕ) (ps : List ℕ) (b : Bool) → times p ps ≡ one_if b → list_any (λ x. x == p) ps ≡ b
any_times p [] true e = absurd (omega (arith, e))
any_times p [] false e = refl
any_times p (x ∷ xs) b e = by_page (x == p) b e (any_times p xs)
  where
    by_page : (c d : Bool) → length (cond c (x ∷ filter (λ y. y == p) xs) (filter (λ y. y == p) xs)) ≡ one_if d → ((a : Bool) → times p xs ≡ one_if a → list_any (λ y. y == p) xs ≡ a) → (c || list_any (λ y. y == p) xs) ≡ d
    by_page true true e rest = refl
    by_page true false e rest = absurd (omega (arith, e))
    by_page false d e rest = rest d e

-- the pages of exclusive locks
abbrev pub exclusive_pages : List Held → List ℕ
exclusive_pages hs = map (λ (h : Held). h.page) (filter (λ (h : Held). is_exclusive h.mode) hs)

none_case : (h : Held) (hs : List Held) (p : ℕ) (b c : Bool) → (h.page == p) ≡ b → pick b (Some h) (lock_on hs p) ≡ None → (lock_on hs p ≡ None → times p (exclusive_pages hs) ≡ 0)
    → times p (map (λ (g : Held). g.page) (cond c (h ∷ filter (λ (g : Held). is_exclusive g.mode) hs) (filter (λ (g : Held). is_exclusive g.mode) hs))) ≡ 0
none_case h hs p true c e none rest = absurd (cc)
none_case h hs p false true e none rest = ap (λ b. length (cond b (h.page ∷ filter (λ q. q == p) (exclusive_pages hs)) (filter (λ q. q == p) (exclusive_pages hs)))) e ∙ rest none
none_case h hs p false false e none rest = rest none

none_exclusive : (hs : List Held) (p : ℕ) → lock_on hs p ≡ None → times p (exclusive_pages hs) ≡ 0
unfolding lock_on
none_exclusive [] p none = refl
none_exclusive (h ∷ hs) p none = none_case h hs p (h.page == p) (is_exclusive h.mode) refl none (none_exclusive hs p)

exclusive_case : (h : Held) (hs : List Held) (p : ℕ) (b c : Bool) → (h.page == p) ≡ b → is_exclusive h.mode ≡ c → lock_on hs h.page ≡ None → times p (exclusive_pages hs) ≡ one_if (is_exclusive_lock (lock_on hs p))
    → times p (map (λ (g : Held). g.page) (cond c (h ∷ filter (λ (g : Held). is_exclusive g.mode) hs) (filter (λ (g : Held). is_exclusive g.mode) hs))) ≡ one_if (is_exclusive_lock (pick b (Some h) (lock_on hs p)))
exclusive_case h hs p true true e f once rest =
    let none = none_exclusive hs p (subst (λ n. lock_on hs n ≡ None) (equal h.page p e) once) in
    let more = times_more h.page p (exclusive_pages hs) in
    let here : one_if (h.page == p) ≡ 1 = ap one_if e in
    let one : one_if (is_exclusive h.mode) ≡ 1 = ap one_if f in
    omega (arith, none, more, here, one)
exclusive_case h hs p true false e f once rest =
    none_exclusive hs p (subst (λ n. lock_on hs n ≡ None) (equal h.page p e) once) ∙ sym (ap one_if f)
exclusive_case h hs p false true e f once rest =
    ap (λ b. length (cond b (h.page ∷ filter (λ q. q == p) (exclusive_pages hs)) (filter (λ q. q == p) (exclusive_pages hs)))) e ∙ rest
exclusive_case h hs p false false e f once rest = rest

-- each page that is held exclusively is one of them, once
pub times_exclusive : (hs : List Held) (p : ℕ) → AreOnce hs → times p (exclusive_pages hs) ≡ one_if (is_exclusive_lock (lock_on hs p))
unfolding lock_on
times_exclusive [] p once = refl
times_exclusive (h ∷ hs) p once = exclusive_case h hs p (h.page == p) (is_exclusive h.mode) refl refl once.0 (times_exclusive hs p once.1)
