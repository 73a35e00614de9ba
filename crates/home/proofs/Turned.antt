-- What is turned page after page is turned for all pages of a partition.
use Rattle.std.proofs.Common.{◌≡◌, ℕ, ◌==◌, ◌||◌, Bool, true, false, List, [], ◌∷◌, map, refl, ap, sym, ◌∙◌, arith}
use Rattle.std.proofs.lemmas.Bool.Decides.{nat_tests}
use Rattle.std.proofs.lemmas.List.Elements.{All-nil, All-cons, All-head, All-tail, All-weaker}
use Rattle.std.specs.List.{All}
use Rattle.node_rules.specs.Words.{pick}
use Rattle.home_laws.proofs.Words.{swap_test, equal}
use Rattle.home.specs.Ends.{listed}
use Rattle.home.proofs.Removed.{IsListed}

-- an item is turned where it is of this page, and the page is one of the partition
abbrev pub one : {X : Type 0} → (X → ℕ) → (X → X) → (ℕ → Bool) → ℕ → X → X
one page turn inside p x = pick (inside p) (pick (page x == p) (turn x) x) x

-- the same page after page
abbrev pub turned : {X : Type 0} → (X → ℕ) → (X → X) → (ℕ → Bool) → List ℕ → X → X
turned page turn inside [] x = x
turned page turn inside (p ∷ ps) x = turned page turn inside ps (one page turn inside p x)

one_again : {X : Type 0} (turn : X → X) (x : X) → turn (turn x) ≡ turn x → (b c : Bool) → pick b (pick c (turn (turn x)) (turn x)) (turn x) ≡ turn x
one_again turn x twice true true = twice
one_again turn x twice true false = refl
one_again turn x twice false c = refl

turned_again : {X : Type 0} (page : X → ℕ) (turn : X → X) (inside : ℕ → Bool) → ((x : X) → turn (turn x) ≡ turn x) → (ps : List ℕ) (x : X) → turned page turn inside ps (turn x) ≡ turn x
turned_again page turn inside twice [] x = refl
turned_again page turn inside twice (p ∷ ps) x =
    ap (turned page turn inside ps) (one_again turn x (twice x) (inside p) (page (turn x) == p)) ∙ turned_again page turn inside twice ps x

-- an item of another partition stays
one_out : {X : Type 0} (page : X → ℕ) (turn : X → X) (inside : ℕ → Bool) (p : ℕ) (x : X) → inside (page x) ≡ false → (b c : Bool) → inside p ≡ b → (page x == p) ≡ c → pick b (pick c (turn x) x) x ≡ x
one_out page turn inside p x out true true is same =
    let bad : false ≡ true = sym out ∙ ap inside (equal (page x) p same) ∙ is in absurd (cc)
one_out page turn inside p x out true false is same = refl
one_out page turn inside p x out false c is same = refl

turned_out : {X : Type 0} (page : X → ℕ) (turn : X → X) (inside : ℕ → Bool) (ps : List ℕ) (x : X) → inside (page x) ≡ false → turned page turn inside ps x ≡ x
turned_out page turn inside [] x out = refl
turned_out page turn inside (p ∷ ps) x out =
    ap (turned page turn inside ps) (one_out page turn inside p x out (inside p) (page x == p) refl refl) ∙ turned_out page turn inside ps x out

-- an item of the partition, whose page is listed, is turned
turned_in : {X : Type 0} (page : X → ℕ) (turn : X → X) (inside : ℕ → Bool) → ((x : X) → turn (turn x) ≡ turn x) → (ps : List ℕ) (x : X) → inside (page x) ≡ true → listed ps (page x) ≡ true
    → turned page turn inside ps x ≡ turn x
turned_in page turn inside twice [] x in_it is = absurd (cc)
turned_in page turn inside twice (p ∷ ps) x in_it is = by_page (page x == p) refl (turned_in page turn inside twice ps x in_it)
  where
    other : (b : Bool) → pick b x x ≡ x
    other true = refl
    other false = refl

    by_page : (b : Bool) → (page x == p) ≡ b → (listed ps (page x) ≡ true → turned page turn inside ps x ≡ turn x) → turned page turn inside ps (one page turn inside p x) ≡ turn x
    by_page true same rest =
        let here : inside p ≡ true = ap inside (sym (equal (page x) p same)) ∙ in_it in
        let now : one page turn inside p x ≡ turn x = ap (λ d. pick d (pick (page x == p) (turn x) x) x) here ∙ ap (λ d. pick d (turn x) x) same in
        ap (turned page turn inside ps) now ∙ turned_again page turn inside twice ps x
    by_page false same rest =
        let later : listed ps (page x) ≡ true = ap (λ d. d || listed ps (page x)) (sym (swap_test p (page x) ∙ same)) ∙ is in
        let now : one page turn inside p x ≡ x = ap (λ d. pick (inside p) (pick d (turn x) x) x) same ∙ other (inside p) in
        ap (turned page turn inside ps) now ∙ rest later

turned_case : {X : Type 0} (page : X → ℕ) (turn : X → X) (inside : ℕ → Bool) → ((x : X) → turn (turn x) ≡ turn x) → (ps : List ℕ) (x : X) → IsListed (λ y. inside (page y)) page ps x
    → (b : Bool) → inside (page x) ≡ b → turned page turn inside ps x ≡ pick b (turn x) x
turned_case page turn inside twice ps x is true e = turned_in page turn inside twice ps x e (is e)
turned_case page turn inside twice ps x is false e = turned_out page turn inside ps x e

pub turned_all : {X : Type 0} (page : X → ℕ) (turn : X → X) (inside : ℕ → Bool) → ((x : X) → turn (turn x) ≡ turn x) → (ps : List ℕ) (xs : List X) → All (IsListed (λ y. inside (page y)) page ps) xs
    → map (turned page turn inside ps) xs ≡ map (λ x. pick (inside (page x)) (turn x) x) xs
turned_all page turn inside twice ps [] all = refl
turned_all page turn inside twice ps (x ∷ xs) all =
    ap (λ y. y ∷ map (turned page turn inside ps) xs)
    (turned_case page turn inside twice ps x (All-head (IsListed (λ y. inside (page y)) page ps) x xs all) (inside (page x)) refl)
    ∙ ap (λ l. pick (inside (page x)) (turn x) x ∷ l) (turned_all page turn inside twice ps xs (All-tail (IsListed (λ y. inside (page y)) page ps) x xs all))

-- nothing is turned without a page
pub turned_none : {X : Type 0} (page : X → ℕ) (turn : X → X) (inside : ℕ → Bool) (xs : List X) → map (turned page turn inside []) xs ≡ xs
turned_none page turn inside [] = refl
turned_none page turn inside (x ∷ xs) = ap (λ l. x ∷ l) (turned_none page turn inside xs)

-- each item is of one of the items' pages
or_later : (b c : Bool) → c ≡ true → (b || c) ≡ true
or_later true c is = refl
or_later false c is = is

itself : (n : ℕ) → (n == n) ≡ true
itself n = grind (arith, nat_tests)

pub self_listed : {X : Type 0} (own : X → Bool) (page : X → ℕ) (xs : List X) → All (IsListed own page (map page xs)) xs
self_listed own page [] = All-nil (IsListed own page [])
self_listed own page (x ∷ xs) =
    All-cons (IsListed own page (page x ∷ map page xs)) x xs (λ o. ap (λ d. d || listed (map page xs) (page x)) (itself (page x)))
    (All-weaker (IsListed own page (map page xs)) (IsListed own page (page x ∷ map page xs)) (λ y is o. or_later (page x == page y) (listed (map page xs) (page y)) (is o)) xs (self_listed own page xs))
