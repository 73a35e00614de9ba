-- The pages at an end, unpinned one after the other.
use Rattle.std.proofs.Common.{◌≡◌, ℕ, suc, ◌+◌, ◌<◌, ◌≤◌, true, List, ◌∷◌, length, drop, get_or, map, ap, sym, subst, ◌∙◌, arith}
use Rattle.std.proofs.Math.Seq.{drop-cons}
use Rattle.std.proofs.Math.ListN.{drop_of_length-le}
use Rattle.std.specs.List.{fold}
use Rattle.node_rules.specs.BufferRule.{Pool, has_slot, pinned, unpin}
use Rattle.node_rules.specs.EndRule.{Ending}
use Rattle.home_laws.specs.EndNeeds.{MayUnpin}
use Rattle.home_laws.proofs.EndSteps.{may_unpin_first, may_unpin_next}

-- the page of an ending
abbrev pub page_of : Ending → ℕ
page_of e = e.page

-- the pages from a place on
pages_next : (es : List Ending) (i : ℕ) (d : Ending) → i < length es → map page_of (drop i es) ≡ (get_or es i d).page ∷ map page_of (drop (i + 1) es)
pages_next es i d within =
    let more : suc i ≡ i + 1 = omega arith in
    ap (map page_of) (drop-cons es i d within) ∙ ap (λ n. (get_or es i d).page ∷ map page_of (drop n es)) more

-- the page at a place
pub pinned_next : (es : List Ending) (i : ℕ) (d : Ending) (b : Pool) → i < length es → MayUnpin (map page_of (drop i es)) b
    → (has_slot b (get_or es i d).page ≡ true) × (pinned b (get_or es i d).page ≡ true)
pinned_next es i d b within may =
    may_unpin_first (get_or es i d).page (map page_of (drop (i + 1) es)) b (subst (λ ps. MayUnpin ps b) (pages_next es i d within) may)

pub may_next : (es : List Ending) (i : ℕ) (d : Ending) (b c : Pool) → i < length es → c ≡ unpin b (get_or es i d).page
    → MayUnpin (map page_of (drop i es)) b → MayUnpin (map page_of (drop (i + 1) es)) c
may_next es i d b c within changed may =
    subst (MayUnpin (map page_of (drop (i + 1) es))) (sym changed)
    (may_unpin_next (get_or es i d).page (map page_of (drop (i + 1) es)) b (subst (λ ps. MayUnpin ps b) (pages_next es i d within) may))

-- a fold over the pages: the next one, and none
pub fold_next : {X : Type 0} (f : X → ℕ → X) (es : List Ending) (i : ℕ) (d : Ending) (x y : X) → i < length es → y ≡ f x (get_or es i d).page
    → fold f y (map page_of (drop (i + 1) es)) ≡ fold f x (map page_of (drop i es))
fold_next f es i d x y within changed =
    ap (λ z. fold f z (map page_of (drop (i + 1) es))) changed ∙ ap (fold f x) (sym (pages_next es i d within))

pub fold_over : {X : Type 0} (f : X → ℕ → X) (es : List Ending) (i : ℕ) (x : X) → length es ≤ i → fold f x (map page_of (drop i es)) ≡ x
fold_over f es i x over = ap (λ l. fold f x (map page_of l)) (drop_of_length-le es over)
