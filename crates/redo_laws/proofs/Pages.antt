-- Redo of one page when entries come, go or are on the stored page already.
use Rattle.std.proofs.Common.{inl, inr, ◌≡◌, refl, sym, ap, ◌∙◌, ℕ, ◌<◌, ◌≤◌, Bool, false, ◌==◌, List, [], ◌∷◌, ◌++◌, length, Option, arith, length-append}
use Rattle.std.specs.List.{AllByRecursion}
use Rattle.std.proofs.lemmas.Bool.Decides.{nat_tests}
use Rattle.pcl_base.specs.declared.log.Logged.{Logged}
use Rattle.pcl_base.specs.declared.log.ChangedRange.{ChangedRange}
use Rattle.text_rules.specs.StoredPage.{PageAt}
use Rattle.run_rules.specs.Redo.{newest_image, ranges_or, ranges_at, reached}
use Rattle.redo_laws.specs.Words.{PassesThrough}
use Rattle.redo_laws.proofs.Chains.{above_most, reached_enough, reached_rises, reached_rest, reached_same}
use Rattle.redo_laws.proofs.Images.{newest_rises, newest_append, newest_kept, newest_again, newest_under}

-- redo of a page by its entries
abbrev pub redone_by : List Logged → PageAt → PageAt
redone_by xs at = reached (length xs) xs (newest_image at xs)

-- redo of a page that redo of another passes through is the same
pub passed_same : (xs : List Logged) (at mid : PageAt) → PassesThrough xs at mid → redone_by xs mid ≡ redone_by xs at
passed_same xs at mid (inr under) = ap (λ (a : PageAt). reached (length xs) xs a) (newest_under at mid xs under.0 under.1)
passed_same xs at mid (inl on) =
    let same = ap (λ (a : PageAt). a.version) on.1 in
    let rises = reached_rises on.0 xs (newest_image at xs) in
    let kept = newest_again at mid xs (omega arith) in
    let fewer = above_most (newest_image at xs).version xs in
    ap (λ (a : PageAt). reached (length xs) xs a) (kept ∙ on.1) ∙ reached_rest on.0 (length xs) xs (newest_image at xs) fewer

-- redo never lowers a version
pub redone_rises : (xs : List Logged) (at : PageAt) → at.version ≤ (redone_by xs at).version
redone_rises xs at =
    let image = newest_rises at xs in
    let steps = reached_rises (length xs) xs (newest_image at xs) in
    omega arith

-- entries in front that have another version
ranges_front : (xs ys : List Logged) (v : ℕ) → AllByRecursion (λ x. x.version < v) xs → ranges_at (xs ++ ys) v ≡ ranges_at ys v
unfolding ranges_at
ranges_front [] ys v h = refl
ranges_front (x ∷ xs) ys v h =
    let other : (x.version == v) ≡ false = let less = h.0 in grind (arith, nat_tests) in
    ap (λ (b : Bool). ranges_or b x.part (ranges_at (xs ++ ys) v)) other ∙ ranges_front xs ys v h.1

-- entries in between that have another version
ranges_between : (xs fs ys : List Logged) (v : ℕ) → AllByRecursion (λ x. x.version < v) fs → ranges_at (xs ++ (fs ++ ys)) v ≡ ranges_at (xs ++ ys) v
unfolding ranges_at
ranges_between [] fs ys v h = ranges_front fs ys v h
ranges_between (x ∷ xs) fs ys v h = ap (λ (o : Option (List ChangedRange)). ranges_or (x.version == v) x.part o) (ranges_between xs fs ys v h)

-- versions up to one are below a later one
all_below : (xs : List Logged) (v w : ℕ) → v < w → AllByRecursion (λ x. x.version ≤ v) xs → AllByRecursion (λ x. x.version < w) xs
all_below [] v w less h = tt
all_below (x ∷ xs) v w less h = (let most = h.0 in omega arith, all_below xs v w less h.1)

all_most : (xs : List Logged) (v w : ℕ) → v ≤ w → AllByRecursion (λ x. x.version ≤ v) xs → AllByRecursion (λ x. x.version ≤ w) xs
all_most [] v w less h = tt
all_most (x ∷ xs) v w less h = (let most = h.0 in omega arith, all_most xs v w less h.1)

-- entries that the stored page has already may go
pub redone_without : (xs fs ys : List Logged) (at : PageAt) → AllByRecursion (λ x. x.version ≤ at.version) fs → redone_by (xs ++ ys) at ≡ redone_by (xs ++ (fs ++ ys)) at
redone_without xs fs ys at h =
    let first = newest_rises at xs in
    let image : newest_image at (xs ++ ys) ≡ newest_image at (xs ++ (fs ++ ys)) =
    newest_append at xs ys
    ∙ ap (λ (a : PageAt). newest_image a ys) (sym (newest_kept (newest_image at xs) fs (all_most fs at.version (newest_image at xs).version first h)))
    ∙ sym (newest_append (newest_image at xs) fs ys)
    ∙ sym (newest_append at xs (fs ++ ys)) in
    let base = newest_rises at (xs ++ (fs ++ ys)) in
    let counts : length (xs ++ ys) ≤ length (xs ++ (fs ++ ys)) = simp length-append (omega arith) in
    let few = above_most (newest_image at (xs ++ (fs ++ ys))).version (xs ++ ys) in
    ap (λ (a : PageAt). reached (length (xs ++ ys)) (xs ++ ys) a) image
    ∙ reached_enough (length (xs ++ ys)) (length (xs ++ (fs ++ ys))) (xs ++ ys) (newest_image at (xs ++ (fs ++ ys))) few (omega arith)
    ∙ sym (reached_same (length (xs ++ (fs ++ ys))) (xs ++ (fs ++ ys)) (xs ++ ys) (newest_image at (xs ++ (fs ++ ys)))
    (λ v less. ranges_between xs fs ys v (all_below fs at.version v (omega arith) h)))
