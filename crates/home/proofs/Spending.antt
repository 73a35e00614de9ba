-- The rights on pages of a partition are spent, one after the other.
use Rattle.std.proofs.Common.{◌≡◌, ℕ, suc, ◌+◌, ◌<◌, ◌≤◌, ◌==◌, ◌&&◌, not, cond, Bool, true, false, List, [], ◌∷◌, length, map, drop, get_or, refl, ap, sym, subst, ◌∙◌, arith}
use Rattle.std.proofs.Math.Seq.{drop-cons}
use Rattle.std.proofs.Math.ListN.{drop_of_length-le}
use Rattle.std.proofs.lemmas.List.Elements.{All-weaker}
use Rattle.std.specs.List.{All, filter, fold}
use Rattle.pcl_base.specs.Limits.{Sizes}
use Rattle.node_rules.specs.Words.{pick}
use Rattle.node_rules.specs.Shelf.{Right, spend}
use Rattle.home_laws.proofs.Words.{equal}
use Rattle.home.specs.Ends.{listed}
use Rattle.home.specs.Moves.{spend_if}
use Rattle.home.proofs.Removed.{IsListed, others, removes, removes_all}
use Rattle.home.proofs.Turned.{self_listed}
use Rattle.home.proofs.Turning.{in_part}

abbrev pub page_right : Right → ℕ
page_right r = r.page

abbrev pub page_pair : ℕ × ℕ → ℕ
page_pair r = r.0

-- lists that pass the same tests
filter_as : (f g : Right → Bool) → ((r : Right) → f r ≡ g r) → (rs : List Right) → filter f rs ≡ filter g rs
filter_as f g same [] = refl
filter_as f g same (r ∷ rs) = ap (λ b. cond b (r ∷ filter f rs) (filter f rs)) (same r) ∙ ap (λ l. cond (g r) (r ∷ l) l) (filter_as f g same rs)

filter_full : (f : Right → Bool) → ((r : Right) → f r ≡ true) → (rs : List Right) → filter f rs ≡ rs
filter_full f all [] = refl
filter_full f all (r ∷ rs) = ap (λ b. cond b (r ∷ filter f rs) (filter f rs)) (all r) ∙ ap (λ l. r ∷ l) (filter_full f all rs)

-- a right is spent, or is of another partition
spent_as : (c : Sizes) (q p : ℕ) (rs : List Right) → spend_if (in_part c q p) rs p ≡ others (λ r. in_part c q r.page) page_right p rs
unfolding spend
spent_as c q p rs = by_part (in_part c q p) refl
  where
    test : (r : Right) (b d e : Bool) → in_part c q p ≡ b → (r.page == p) ≡ d → in_part c q r.page ≡ e → d ≡ true → e ≡ b
    test r b d e is same at here = sym at ∙ ap (in_part c q) (equal r.page p (same ∙ here)) ∙ is

    of_true : (r : Right) (d e : Bool) → (d ≡ true → e ≡ true) → not d ≡ not (e && d)
    of_true r true true h = refl
    of_true r true false h = (let bad : false ≡ true = h refl in absurd (cc))
    of_true r false true h = refl
    of_true r false false h = refl

    of_false : (r : Right) (d e : Bool) → (d ≡ true → e ≡ false) → not (e && d) ≡ true
    of_false r true true h = (let bad : true ≡ false = h refl in absurd (cc))
    of_false r true false h = refl
    of_false r false true h = refl
    of_false r false false h = refl

    by_part : (b : Bool) → in_part c q p ≡ b → pick b (filter (λ r. not (r.page == p)) rs) rs ≡ filter (λ r. not (in_part c q r.page && r.page == p)) rs
    by_part true is =
        filter_as (λ r. not (r.page == p)) (λ r. not (in_part c q r.page && r.page == p))
        (λ r. of_true r (r.page == p) (in_part c q r.page) (test r true (r.page == p) (in_part c q r.page) is refl refl)) rs
    by_part false is =
        sym (filter_full (λ r. not (in_part c q r.page && r.page == p))
        (λ r. of_false r (r.page == p) (in_part c q r.page) (test r false (r.page == p) (in_part c q r.page) is refl refl)) rs)

removed_as : (c : Sizes) (q : ℕ) (rs : List Right) (ps : List ℕ) → fold (λ l p. spend_if (in_part c q p) l p) rs ps ≡ removes (λ r. in_part c q r.page) page_right rs ps
removed_as c q rs [] = refl
removed_as c q rs (p ∷ ps) = ap (λ l. fold (λ z n. spend_if (in_part c q n) z n) l ps) (spent_as c q p rs) ∙ removed_as c q (others (λ r. in_part c q r.page) page_right p rs) ps

-- the rights as they are told, and their pages
abbrev pub pairs_of : List Right → List (ℕ × ℕ)
pairs_of rs = map (λ (r : Right). (r.page, r.version)) rs

pages_told : (rs : List Right) → map page_pair (pairs_of rs) ≡ map page_right rs
pages_told [] = refl
pages_told (r ∷ rs) = ap (λ l. r.page ∷ l) (pages_told rs)

-- all of them are told
pub all_told : (rs : List Right) (told : List (ℕ × ℕ)) → told ≡ pairs_of rs → All (λ r. listed (map page_pair told) r.page ≡ true) rs
all_told rs told is =
    subst (λ pages. All (λ r. listed pages r.page ≡ true) rs) (sym (ap (λ l. map page_pair l) is ∙ pages_told rs))
    (All-weaker (IsListed (λ r. true) page_right (map page_right rs)) (λ r. listed (map page_right rs) r.page ≡ true) (λ r listed_if. listed_if refl) rs
    (self_listed (λ r. true) page_right rs))

-- a fold over pages: the next one, and none
pub pairs_next : {Y : Type 0} (f : Y → ℕ → Y) (es : List (ℕ × ℕ)) (i : ℕ) (d : ℕ × ℕ) (x y : Y) → i < length es → y ≡ f x (get_or es i d).0
    → fold f y (map page_pair (drop (i + 1) es)) ≡ fold f x (map page_pair (drop i es))
pairs_next f es i d x y within changed =
    let more : suc i ≡ i + 1 = omega arith in
    ap (λ z. fold f z (map page_pair (drop (i + 1) es))) changed
    ∙ sym (ap (λ l. fold f x (map page_pair l)) (drop-cons es i d within) ∙ ap (λ n. fold f (f x (get_or es i d).0) (map page_pair (drop n es))) more)

pub pairs_over : {Y : Type 0} (f : Y → ℕ → Y) (es : List (ℕ × ℕ)) (i : ℕ) (x : Y) → length es ≤ i → fold f x (map page_pair (drop i es)) ≡ x
pairs_over f es i x over = ap (λ l. fold f x (map page_pair l)) (drop_of_length-le es over)

-- the pages of all rights are listed, and those of the partition are spent
pub rights_spent : (c : Sizes) (q : ℕ) (rs new : List Right) (pages : List ℕ) → All (λ r. listed pages r.page ≡ true) rs
    → new ≡ fold (λ l p. spend_if (in_part c q p) l p) rs pages → new ≡ filter (λ r. not (in_part c q r.page)) rs
rights_spent c q rs new pages all changed =
    changed
    ∙ removed_as c q rs pages
    ∙ removes_all (λ r. in_part c q r.page) page_right pages rs
    (All-weaker (λ r. listed pages r.page ≡ true) (IsListed (λ r. in_part c q r.page) page_right pages) (λ r is own. is) rs all)
