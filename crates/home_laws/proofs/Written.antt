-- The pages that a transaction wrote rise, and it has a private copy of each.
use Rattle.std.proofs.Common.{◌≡◌, ℕ, ◌+◌, ◌≤◌, ◌==◌, ◌&&◌, nat_lt, cond, Bool, true, false, List, [], ◌∷◌, length, Option, Some, is_some, refl, ap, sym, ◌∙◌, arith}
use Rattle.std.proofs.lemmas.Bool.Decides.{nat_tests}
use Rattle.std.specs.List.{filter, AllByRecursion}
use Rattle.pcl_base.specs.declared.tx.TxId.{TxId}
use Rattle.node_rules.specs.Words.{pick, same_tx}
use Rattle.node_rules.specs.BufferRule.{PrivateCopy, is_private, private_in}
use Rattle.node_rules.specs.EndRule.{insert_page, written_pages}
use Rattle.home_laws.specs.EndLaws.{AreRising}
use Rattle.home_laws.proofs.Serials.{one_if}
use Rattle.home_laws.proofs.Slots.{length_if}
use Rattle.home_laws.proofs.Unpins.{times}

-- how often a page is in a list with a further one
pub times_more : (p q : ℕ) (ps : List ℕ) → times q (p ∷ ps) ≡ one_if (p == q) + times q ps
times_more p q ps = length_if (p == q) p (filter (λ x. x == q) ps)

insert_case : (p q x : ℕ) (xs : List ℕ) (b : Bool) → times q (insert_page p xs) ≡ one_if (p == q) + times q xs → times q (pick b (p ∷ x ∷ xs) (x ∷ insert_page p xs)) ≡ one_if (p == q) + times q (x ∷ xs)
insert_case p q x xs true rest = times_more p q (x ∷ xs)
insert_case p q x xs false rest = let l = times_more x q (insert_page p xs) in let r = times_more x q xs in omega (arith, l, r, rest)

pub times_inserted : (p q : ℕ) (xs : List ℕ) → times q (insert_page p xs) ≡ one_if (p == q) + times q xs
unfolding insert_page
times_inserted p q [] = times_more p q []
times_inserted p q (x ∷ xs) = insert_case p q x xs (nat_lt p x) (times_inserted p q xs)

-- a new page goes to its place
rising_case : (low p x : ℕ) (xs : List ℕ) (b : Bool) → nat_lt p x ≡ b → low ≤ p → AreRising low (x ∷ xs) → times p (x ∷ xs) ≡ 0 → (x + 1 ≤ p → times p xs ≡ 0 → AreRising (x + 1) (insert_page p xs)) → AreRising low (pick b (p ∷ x ∷ xs) (x ∷ insert_page p xs))
rising_case low p x xs true e l rise none rest = (l, (grind (arith, nat_tests), rise.1))
rising_case low p x xs false e l rise none rest =
    let count = times_more x p xs in
    let other : (x == p) ≡ false = differs (x == p) refl (omega (arith, count)) in
    let above : x + 1 ≤ p = grind (arith, nat_tests) in
    (rise.0, rest above (omega (arith, count)))
  where
    differs : (b : Bool) → (x == p) ≡ b → one_if (x == p) ≡ 0 → (x == p) ≡ false
    differs true f zero = let bad : one_if true ≡ 0 = ap one_if (sym f) ∙ zero in absurd (omega (arith, bad))
    differs false f zero = f

rising_inserted : (low p : ℕ) (xs : List ℕ) → low ≤ p → AreRising low xs → times p xs ≡ 0 → AreRising low (insert_page p xs)
unfolding insert_page
rising_inserted low p [] l rise none = (l, tt)
rising_inserted low p (x ∷ xs) l rise none = rising_case low p x xs (nat_lt p x) refl l rise none (λ above zero. rising_inserted (x + 1) p xs above rise.1 zero)

-- each page is written as often as there is a private copy of it
times_case : (t : TxId) (q : ℕ) (x : PrivateCopy) (xs : List PrivateCopy) (b : Bool) → times q (written_pages xs t) ≡ length (filter (is_private t q) xs)
    → times q (pick b (insert_page x.page (written_pages xs t)) (written_pages xs t)) ≡ length (cond (b && x.page == q) (x ∷ filter (is_private t q) xs) (filter (is_private t q) xs))
times_case t q x xs true rest =
    let l = times_inserted x.page q (written_pages xs t) in
    let r = length_if (x.page == q) x (filter (is_private t q) xs) in
    omega (arith, l, r, rest)
times_case t q x xs false rest = rest

pub times_written : (t : TxId) (q : ℕ) (xs : List PrivateCopy) → times q (written_pages xs t) ≡ length (filter (is_private t q) xs)
unfolding written_pages
times_written t q [] = refl
times_written t q (x ∷ xs) = times_case t q x xs (same_tx x.tx t) (times_written t q xs)

one_less : (t : TxId) (x : PrivateCopy) (xs : List PrivateCopy) → ((q : ℕ) → length (filter (is_private t q) (x ∷ xs)) ≤ 1) → (q : ℕ) → length (filter (is_private t q) xs) ≤ 1
one_less t x xs once q = let l = length_if (is_private t q x) x (filter (is_private t q) xs) in omega (arith, once q, l)

written_case : (t : TxId) (x : PrivateCopy) (xs : List PrivateCopy) (b : Bool) → same_tx x.tx t ≡ b → length (filter (is_private t x.page) (x ∷ xs)) ≤ 1 → AreRising 0 (written_pages xs t)
    → AreRising 0 (pick b (insert_page x.page (written_pages xs t)) (written_pages xs t))
written_case t x xs true e once rest =
    let count = length_if (is_private t x.page x) x (filter (is_private t x.page) xs) in
    let self : (x.page == x.page) ≡ true = grind (arith, nat_tests) in
    let here : one_if (is_private t x.page x) ≡ 1 = λ i. one_if (e i && self i) in
    let none : times x.page (written_pages xs t) ≡ 0 = times_written t x.page xs ∙ omega (arith, once, count, here) in
    rising_inserted 0 x.page (written_pages xs t) (omega arith) rest none
written_case t x xs false e once rest = rest

pub written_rise : (t : TxId) (xs : List PrivateCopy) → ((q : ℕ) → length (filter (is_private t q) xs) ≤ 1) → AreRising 0 (written_pages xs t)
unfolding written_pages
written_rise t [] once = tt
written_rise t (x ∷ xs) once = written_case t x xs (same_tx x.tx t) refl (once x.page) (written_rise t xs (one_less t x xs once))

-- there is a private copy of each page that was written
found_case : (b : Bool) (x : PrivateCopy) (o : Option PrivateCopy) (ys : List PrivateCopy) → 1 ≤ length (cond b (x ∷ ys) ys) → (1 ≤ length ys → is_some o ≡ true) → is_some (pick b (Some x) o) ≡ true
found_case true x o ys l rest = refl
found_case false x o ys l rest = rest l

pub written_private : (t : TxId) (q : ℕ) (xs : List PrivateCopy) → 1 ≤ length (filter (is_private t q) xs) → is_some (private_in xs t q) ≡ true
unfolding private_in
written_private t q [] l = absurd (omega (arith, l))
written_private t q (x ∷ xs) l = found_case (is_private t q x) x (private_in xs t q) (filter (is_private t q) xs) l (written_private t q xs)

-- what holds of each page that is in a list
pub of_each : (P : ℕ → Type 0) (ps : List ℕ) → ((q : ℕ) → 1 ≤ times q ps → P q) → AllByRecursion P ps
of_each P [] f = tt
of_each P (p ∷ ps) f =
    let self : one_if (p == p) ≡ 1 = ap one_if (same p) in
    let here = times_more p p ps in
    (f p (omega (arith, here, self)), of_each P ps (λ q l. let more = times_more p q ps in f q (omega (arith, more, l))))
  where
    same : (n : ℕ) → (n == n) ≡ true
    same n = grind (arith, nat_tests)
