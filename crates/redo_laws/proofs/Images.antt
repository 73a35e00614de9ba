-- The newest whole page among the entries of a page.
use Rattle.std.proofs.Common.{inl, inr, ◌≡◌, refl, sym, ap, ◌∙◌, ℕ, ◌<◌, ◌≤◌, Bool, true, false, nat_lt, List, [], ◌∷◌, ◌++◌, arith}
use Rattle.std.specs.Prelude.{◌⊎◌}
use Rattle.std.specs.List.{AllByRecursion}
use Rattle.std.proofs.lemmas.List.Sums.{fold-append}
use Rattle.std.proofs.lemmas.Bool.Decides.{nat_tests}
use Rattle.pcl_base.specs.declared.log.Logged.{Logged}
use Rattle.pcl_base.specs.declared.log.Part.{Part}
use Rattle.pcl_base.specs.declared.log.Part.TheVariants.{Image, Ranges}
use Rattle.text_rules.specs.StoredPage.{PageAt}
use Rattle.run_rules.specs.Words.{pick}
use Rattle.run_rules.specs.Redo.{newer, newest_image}

-- an entry never lowers the version
newer_rises : (v : ℕ) (at : PageAt) (part : Part) → at.version ≤ (newer v at part).version
newer_rises v at (Image bytes) = one (nat_lt at.version v) refl
  where
    one : (b : Bool) → nat_lt at.version v ≡ b → at.version ≤ (pick b (let new : PageAt = record { version = v; bytes = bytes } in new) at).version
    one true e = grind (arith, nat_tests)
    one false e = omega arith
newer_rises v at (Ranges rs) = omega arith

pub newest_rises : (at : PageAt) (xs : List Logged) → at.version ≤ (newest_image at xs).version
newest_rises at [] = omega arith
newest_rises at (x ∷ xs) =
    let first = newer_rises x.version at x.part in
    let rest = newest_rises (newer x.version at x.part) xs in
    omega arith

pub newest_append : (at : PageAt) (xs ys : List Logged) → newest_image at (xs ++ ys) ≡ newest_image (newest_image at xs) ys
newest_append at xs ys = fold-append (λ (a : PageAt) (x : Logged). newer x.version a x.part) at xs ys

-- an entry that isn't newer
pub newer_no : (v : ℕ) (at : PageAt) (part : Part) → v ≤ at.version → newer v at part ≡ at
newer_no v at (Image bytes) h =
    let old : nat_lt at.version v ≡ false = grind (arith, nat_tests) in
    ap (λ (b : Bool). pick b (let new : PageAt = record { version = v; bytes = bytes } in new) at) old
newer_no v at (Ranges rs) h = refl

-- a whole page that is newer
pub newer_yes : (v : ℕ) (at : PageAt) (bytes : List ℕ) → at.version < v → newer v at (Image bytes) ≡ record { version = v; bytes = bytes }
newer_yes v at bytes h =
    let new : nat_lt at.version v ≡ true = grind (arith, nat_tests) in
    ap (λ (b : Bool). pick b (let page : PageAt = record { version = v; bytes = bytes } in page) at) new

-- entries none of which is newer
pub newest_kept : (at : PageAt) (xs : List Logged) → AllByRecursion (λ x. x.version ≤ at.version) xs → newest_image at xs ≡ at
newest_kept at [] h = refl
newest_kept at (x ∷ xs) h =
    ap (λ (a : PageAt). newest_image a xs) (newer_no x.version at x.part h.0) ∙ newest_kept at xs h.1

-- a page at least as new as the newest whole page stays
pub newest_again : (at mid : PageAt) (xs : List Logged) → (newest_image at xs).version ≤ mid.version → newest_image mid xs ≡ mid
newest_again at mid [] h = refl
newest_again at mid (x ∷ xs) h =
    ap (λ (a : PageAt). newest_image a xs) (first x.part (newest_rises (newer x.version at x.part) xs))
    ∙ newest_again (newer x.version at x.part) mid xs h
  where
    first : (p : Part) → (newer x.version at p).version ≤ (newest_image (newer x.version at x.part) xs).version → newer x.version mid p ≡ mid
    first (Image bytes) rises = old (nat_lt at.version x.version) refl
      where
        old : (b : Bool) → nat_lt at.version x.version ≡ b → newer x.version mid (Image bytes) ≡ mid
        old true e = let same = ap (λ (a : PageAt). a.version) (newer_yes x.version at bytes (grind (arith, nat_tests))) in newer_no x.version mid (Image bytes) (omega arith)
        old false e = let same = ap (λ (a : PageAt). a.version) (newer_no x.version at (Image bytes) (grind (arith, nat_tests))) in newer_no x.version mid (Image bytes) (grind (arith, nat_tests))
    first (Ranges rs) rises = refl

-- an entry makes one page of both, or the newer of two pages stays
newer_both : (v : ℕ) (at mid : PageAt) (p : Part) → at.version ≤ mid.version → (newer v mid p ≡ newer v at p) ⊎ ((newer v mid p ≡ mid) × ((newer v at p).version ≤ mid.version))
newer_both v at mid (Ranges rs) low = inr (refl, low)
newer_both v at mid (Image bytes) low = one (nat_lt mid.version v) (nat_lt at.version v) refl refl
  where
    one : (a b : Bool) → nat_lt mid.version v ≡ a → nat_lt at.version v ≡ b
        → (newer v mid (Image bytes) ≡ newer v at (Image bytes)) ⊎ ((newer v mid (Image bytes) ≡ mid) × ((newer v at (Image bytes)).version ≤ mid.version))
    one true b p q = inl (newer_yes v mid bytes (grind (arith, nat_tests)) ∙ sym (newer_yes v at bytes (grind (arith, nat_tests))))
    one false true p q =
        let same = ap (λ (a : PageAt). a.version) (newer_yes v at bytes (grind (arith, nat_tests))) in
        inr (newer_no v mid (Image bytes) (grind (arith, nat_tests)), grind (arith, nat_tests))
    one false false p q =
        let same = ap (λ (a : PageAt). a.version) (newer_no v at (Image bytes) (grind (arith, nat_tests))) in
        inr (newer_no v mid (Image bytes) (grind (arith, nat_tests)), omega arith)

-- pages older than a whole page lead to the same one
pub newest_under : (at mid : PageAt) (xs : List Logged) → at.version ≤ mid.version → mid.version < (newest_image at xs).version → newest_image mid xs ≡ newest_image at xs
newest_under at mid [] low h = absurd (omega arith)
newest_under at mid (x ∷ xs) low h = one (newer_both x.version at mid x.part low) (newest_under (newer x.version at x.part) mid xs)
  where
    one : (newer x.version mid x.part ≡ newer x.version at x.part) ⊎ ((newer x.version mid x.part ≡ mid) × ((newer x.version at x.part).version ≤ mid.version))
        → ((newer x.version at x.part).version ≤ mid.version → mid.version < (newest_image (newer x.version at x.part) xs).version → newest_image mid xs ≡ newest_image (newer x.version at x.part) xs)
        → newest_image mid (x ∷ xs) ≡ newest_image at (x ∷ xs)
    one (inl same) again = ap (λ (a : PageAt). newest_image a xs) same
    one (inr old) again = ap (λ (a : PageAt). newest_image a xs) old.0 ∙ again old.1 h
