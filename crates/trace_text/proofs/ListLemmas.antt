-- The text of a list, item by item.
use Rattle.std.proofs.Common.{◌≡◌, ℕ, List, [], ◌∷◌, ◌++◌, ap, sym, ◌∙◌, append_assoc, map, flat_map, Result, Ok, Err, OnOk}
use Rattle.std.proofs.lemmas.List.{append-nil}
use Rattle.text_rules.specs.TraceText.{list_text}

-- the first item, and each other one after a comma
list_text-cons : {X : Type 0} (text : X → List ℕ) (x : X) (xs : List X) → list_text (map text (x ∷ xs)) ≡ text x ++ flat_map (λ y. 44 ∷ text y) xs
list_text-cons text x [] = sym (append-nil (text x))
list_text-cons text x (y ∷ xs) = ap (λ (l : List ℕ). text x ++ (44 ∷ l)) (list_text-cons text y xs)

-- the first item and then the others make the text of the list
pub list_written : {X : Type 0} (text : X → List ℕ) (before first all : List ℕ) (x : X) (xs items : List X) → items ≡ x ∷ xs → first ≡ before ++ text x
    → all ≡ first ++ flat_map (λ y. 44 ∷ text y) xs → all ≡ before ++ list_text (map text items)
list_written text before first all x xs items whole one others =
    others
    ∙ ap (λ (l : List ℕ). l ++ flat_map (λ y. 44 ∷ text y) xs) one
    ∙ append_assoc before (text x) (flat_map (λ y. 44 ∷ text y) xs)
    ∙ ap (λ (l : List ℕ). before ++ l) (sym (list_text-cons text x xs))
    ∙ ap (λ l. before ++ list_text (map text l)) (sym whole)

-- what follows from a fact of an `Ok` holds of it
pub on_ok : {T E P Q : Type 0} (r : Result T E) → OnOk r P → (P → Q) → OnOk r Q
on_ok (Ok x) p f = f p
on_ok (Err e) p f = p
