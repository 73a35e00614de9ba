-- What is taken out of a list by owner and page, one page after the other.
use Rattle.std.proofs.Common.{◌≡◌, ℕ, ◌==◌, ◌&&◌, ◌||◌, not, cond, Bool, true, false, List, [], ◌∷◌, refl, ap, sym, ◌∙◌}
use Rattle.std.specs.List.{All, filter, fold}
use Rattle.std.proofs.lemmas.List.Elements.{All-nil, All-cons, All-head, All-tail}
use Rattle.home_laws.proofs.Words.{swap_test}
use Rattle.home.specs.Ends.{listed}

-- what is of other owners or of another page
abbrev pub others : {X : Type 0} → (X → Bool) → (X → ℕ) → ℕ → List X → List X
others own page p xs = filter (λ x. not (own x && page x == p)) xs

abbrev pub removes : {X : Type 0} → (X → Bool) → (X → ℕ) → List X → List ℕ → List X
removes own page xs ps = fold (λ l p. others own page p l) xs ps

-- what the owner has is of a listed page
abbrev pub IsListed : {X : Type 0} → (X → Bool) → (X → ℕ) → List ℕ → X → Type 0
IsListed own page ps x = own x ≡ true → listed ps (page x) ≡ true

none_left : {X : Type 0} (own : X → Bool) (page : X → ℕ) (xs : List X) → All (IsListed own page []) xs → filter (λ x. not (own x)) xs ≡ xs
none_left own page [] none = refl
none_left own page (x ∷ xs) none = by_test (own x) (All-head (IsListed own page []) x xs none) (none_left own page xs (All-tail (IsListed own page []) x xs none))
  where
    by_test : (b : Bool) → (b ≡ true → false ≡ true) → filter (λ y. not (own y)) xs ≡ xs → cond (not b) (x ∷ filter (λ y. not (own y)) xs) (filter (λ y. not (own y)) xs) ≡ x ∷ xs
    by_test true bad rest = let no = bad refl in absurd (cc)
    by_test false bad rest = ap (λ l. x ∷ l) rest

abbrev without : {X : Type 0} → (X → Bool) → List X → List X
without own xs = filter (λ x. not (own x)) xs

page_first : {X : Type 0} (own : X → Bool) (page : X → ℕ) (p : ℕ) (xs : List X) → without own (others own page p xs) ≡ without own xs
page_first own page p [] = refl
page_first own page p (x ∷ xs) = by_tests (own x) (page x == p) refl (page_first own page p xs)
  where
    by_tests : (b c : Bool) → own x ≡ b → without own (others own page p xs) ≡ without own xs
        → without own (cond (not (b && c)) (x ∷ others own page p xs) (others own page p xs)) ≡ cond (not b) (x ∷ without own xs) (without own xs)
    by_tests true true e rest = rest
    by_tests true false e rest = ap (λ d. cond (not d) (x ∷ without own (others own page p xs)) (without own (others own page p xs))) e ∙ rest
    by_tests false c e rest = ap (λ d. cond (not d) (x ∷ without own (others own page p xs)) (without own (others own page p xs))) e ∙ ap (λ l. x ∷ l) rest

left_case : {X : Type 0} (own : X → Bool) (page : X → ℕ) (p : ℕ) (ps : List ℕ) (x : X) (ys : List X) (b c : Bool) → own x ≡ b → (page x == p) ≡ c
    → IsListed own page (p ∷ ps) x → All (IsListed own page ps) ys → All (IsListed own page ps) (cond (not (b && c)) (x ∷ ys) ys)
left_case own page p ps x ys true true is same first rest = rest
left_case own page p ps x ys true false is same first rest =
    All-cons (IsListed own page ps) x ys (λ o. ap (λ d. d || listed ps (page x)) (sym (swap_test p (page x) ∙ same)) ∙ first o) rest
left_case own page p ps x ys false c is same first rest =
    All-cons (IsListed own page ps) x ys (λ o. let bad : false ≡ true = sym is ∙ o in absurd (cc)) rest

left_listed : {X : Type 0} (own : X → Bool) (page : X → ℕ) (p : ℕ) (ps : List ℕ) (xs : List X) → All (IsListed own page (p ∷ ps)) xs → All (IsListed own page ps) (others own page p xs)
left_listed own page p ps [] all = All-nil (IsListed own page ps)
left_listed own page p ps (x ∷ xs) all =
    left_case own page p ps x (others own page p xs) (own x) (page x == p) refl refl (All-head (IsListed own page (p ∷ ps)) x xs all)
    (left_listed own page p ps xs (All-tail (IsListed own page (p ∷ ps)) x xs all))

-- nothing of the owner is left
pub removes_all : {X : Type 0} (own : X → Bool) (page : X → ℕ) (ps : List ℕ) (xs : List X) → All (IsListed own page ps) xs → removes own page xs ps ≡ filter (λ x. not (own x)) xs
removes_all own page [] xs all = sym (none_left own page xs all)
removes_all own page (p ∷ ps) xs all =
    removes_all own page ps (others own page p xs) (left_listed own page p ps xs all) ∙ page_first own page p xs
