-- Redo of one page when an entry of the next version comes.
use Rattle.std.proofs.Common.{◌≡◌, refl, sym, ap, ◌∙◌, ℕ, zero, suc, ◌+◌, ◌≤◌, Bool, true, false, ◌==◌, List, [], ◌∷◌, ◌++◌, length, Option, Some, None, arith}
use Rattle.std.specs.Prelude.{◌≢◌}
use Rattle.std.proofs.lemmas.Bool.Decides.{nat_tests}
use Rattle.pcl_base.specs.declared.log.Logged.{Logged}
use Rattle.pcl_base.specs.declared.log.Part.{Part}
use Rattle.pcl_base.specs.declared.log.Part.TheVariants.{Image, Ranges}
use Rattle.pcl_base.specs.declared.log.ChangedRange.{ChangedRange}
use Rattle.text_rules.specs.StoredPage.{PageAt}
use Rattle.text_rules.specs.ChangedRanges.{put_ranges}
use Rattle.run_rules.specs.Redo.{newer, newest_image, ranges_or, ranges_at, reached}
use Rattle.redo_laws.specs.Words.{made_by}
use Rattle.redo_laws.proofs.Chains.{above_most, reached_zero, reached_none, reached_some, reached_stays, reached_more, reached_rises, reached_last, reached_rest}
use Rattle.redo_laws.proofs.Images.{newest_rises, newest_append, newer_yes, newest_again}
use Rattle.redo_laws.proofs.Pages.{redone_by}

-- how many steps were taken
steps_taken : (n : ℕ) (xs : List Logged) (at : PageAt) → (k : ℕ) × ((reached k xs at ≡ reached n xs at) × ((reached n xs at).version ≡ at.version + k))
steps_taken zero xs at = (0, (refl, let same = ap (λ (a : PageAt). a.version) (reached_zero xs at) in omega arith))
steps_taken (suc n) xs at = one (ranges_at xs (at.version + 1)) refl (steps_taken n xs)
  where
    one : (o : Option (List ChangedRange)) → ranges_at xs (at.version + 1) ≡ o
        → ((a : PageAt) → (k : ℕ) × ((reached k xs a ≡ reached n xs a) × ((reached n xs a).version ≡ a.version + k)))
        → (k : ℕ) × ((reached k xs at ≡ reached (suc n) xs at) × ((reached (suc n) xs at).version ≡ at.version + k))
    one None e again =
        let same = ap (λ (a : PageAt). a.version) (reached_none n xs at e) in
        (0, (reached_zero xs at ∙ sym (reached_none n xs at e), omega arith))
    one (Some rs) e again =
        let next : PageAt = record { version = at.version + 1; bytes = put_ranges rs at.bytes } in
        let rest = again next in
        let same = ap (λ (a : PageAt). a.version) (reached_some n xs at rs e) in
        let count = rest.1.1 in
        (suc rest.0, (reached_some rest.0 xs at rs e ∙ rest.1.0 ∙ sym (reached_some n xs at rs e), omega arith))

-- so many steps look at so many versions
reached_until : (k : ℕ) (xs ys : List Logged) (at : PageAt) → ((v : ℕ) → v ≤ at.version + k → ranges_at xs v ≡ ranges_at ys v) → reached k xs at ≡ reached k ys at
reached_until zero xs ys at h = reached_zero xs at ∙ sym (reached_zero ys at)
reached_until (suc k) xs ys at h = one (ranges_at xs (at.version + 1)) refl (reached_until k xs ys)
  where
    next_same : ranges_at xs (at.version + 1) ≡ ranges_at ys (at.version + 1)
    next_same = h (at.version + 1) (omega arith)

    one : (o : Option (List ChangedRange)) → ranges_at xs (at.version + 1) ≡ o
        → ((a : PageAt) → ((v : ℕ) → v ≤ a.version + k → ranges_at xs v ≡ ranges_at ys v) → reached k xs a ≡ reached k ys a)
        → reached (suc k) xs at ≡ reached (suc k) ys at
    one None e again = reached_none k xs at e ∙ sym (reached_none k ys at (sym next_same ∙ e))
    one (Some rs) e again =
        reached_some k xs at rs e
        ∙ again (record { version = at.version + 1; bytes = put_ranges rs at.bytes }) (λ v g. h v (omega arith))
        ∙ sym (reached_some k ys at rs (sym next_same ∙ e))

-- what a test of an entry can't have found
ranges_none : (b : Bool) (p : Part) (o : Option (List ChangedRange)) → ranges_or b p o ≡ None → o ≡ None
ranges_none true (Image bytes) o e = e
ranges_none true (Ranges rs) o e = absurd (cc)
ranges_none false p o e = e

ranges_past : (b : Bool) (p : Part) (o r : Option (List ChangedRange)) → ranges_or b p o ≡ None → ranges_or b p r ≡ r
ranges_past true (Image bytes) o r e = refl
ranges_past true (Ranges rs) o r e = absurd (cc)
ranges_past false p o r e = refl

-- an entry at a version that none has
ranges_added : (xs ys : List Logged) (x : Logged) (w : ℕ) → ranges_at (xs ++ ys) w ≡ None → ranges_at (xs ++ (x ∷ ys)) w ≡ ranges_or (x.version == w) x.part None
unfolding ranges_at
ranges_added [] ys x w e = ap (λ (o : Option (List ChangedRange)). ranges_or (x.version == w) x.part o) e
ranges_added (y ∷ xs) ys x w e =
    let none = ranges_none (y.version == w) y.part (ranges_at (xs ++ ys) w) e in
    ranges_past (y.version == w) y.part (ranges_at (xs ++ ys) w) (ranges_at (xs ++ (x ∷ ys)) w) e ∙ ranges_added xs ys x w none

-- an entry at another version
ranges_beside : (xs ys : List Logged) (x : Logged) (w : ℕ) → x.version ≢ w → ranges_at (xs ++ (x ∷ ys)) w ≡ ranges_at (xs ++ ys) w
unfolding ranges_at
ranges_beside [] ys x w other =
    let differs : (x.version == w) ≡ false = grind (arith, nat_tests) in
    ap (λ (b : Bool). ranges_or b x.part (ranges_at ys w)) differs
ranges_beside (y ∷ xs) ys x w other = ap (λ (o : Option (List ChangedRange)). ranges_or (y.version == w) y.part o) (ranges_beside xs ys x w other)

-- nothing stands behind an entry that was added
none_behind : (xs ys : List Logged) (x : Logged) (v : ℕ) → x.version ≡ v + 1 → ranges_at (xs ++ ys) (v + 2) ≡ None → ranges_at (xs ++ (x ∷ ys)) (v + 1 + 1) ≡ None
none_behind xs ys x v next none =
    let other : x.version ≢ v + 1 + 1 = λ e. absurd (omega arith) in
    let same : v + 1 + 1 ≡ v + 2 = omega arith in
    ranges_beside xs ys x (v + 1 + 1) other ∙ ap (λ (w : ℕ). ranges_at (xs ++ ys) w) same ∙ none

-- changed ranges of the next version
added_ranges : (xs ys : List Logged) (x : Logged) (rs : List ChangedRange) (at : PageAt) → x.part ≡ Ranges rs → x.version ≡ (redone_by (xs ++ ys) at).version + 1
    → ranges_at (xs ++ ys) ((redone_by (xs ++ ys) at).version + 2) ≡ None → redone_by (xs ++ (x ∷ ys)) at ≡ made_by (Ranges rs) (redone_by (xs ++ ys) at)
added_ranges xs ys x rs at is next none =
    let final : PageAt = redone_by (xs ++ ys) at in
    let base : PageAt = newest_image at (xs ++ ys) in
    let made : PageAt = made_by (Ranges rs) final in
    let image : newest_image at (xs ++ (x ∷ ys)) ≡ base =
    newest_append at xs (x ∷ ys)
    ∙ ap (λ (p : Part). newest_image (newer x.version (newest_image at xs) p) ys) is
    ∙ sym (newest_append at xs ys) in
    let steps = steps_taken (length (xs ++ ys)) (xs ++ ys) base in
    let count = steps.1.1 in
    let led : reached steps.0 (xs ++ (x ∷ ys)) base ≡ final =
    reached_until steps.0 (xs ++ (x ∷ ys)) (xs ++ ys) base (λ v low. ranges_beside xs ys x v (λ e. absurd (omega arith))) ∙ steps.1.0 in
    let last = reached_last (length (xs ++ ys)) (xs ++ ys) base (above_most base.version (xs ++ ys)) in
    let here : (x.version == final.version + 1) ≡ true = grind (arith, nat_tests) in
    let found : ranges_at (xs ++ (x ∷ ys)) (final.version + 1) ≡ Some rs =
    ranges_added xs ys x (final.version + 1) last
    ∙ ap (λ (b : Bool). ranges_or b x.part None) here
    ∙ ap (λ (p : Part). ranges_or true p None) is in
    let stepped : reached (steps.0 + 1) (xs ++ (x ∷ ys)) base ≡ made =
    reached_more steps.0 1 (xs ++ (x ∷ ys)) base
    ∙ ap (λ (a : PageAt). reached 1 (xs ++ (x ∷ ys)) a) led
    ∙ reached_some 0 (xs ++ (x ∷ ys)) final rs found
    ∙ reached_zero (xs ++ (x ∷ ys)) made in
    ap (λ (a : PageAt). reached (length (xs ++ (x ∷ ys))) (xs ++ (x ∷ ys)) a) image
    ∙ sym (reached_rest (steps.0 + 1) (length (xs ++ (x ∷ ys))) (xs ++ (x ∷ ys)) base (above_most base.version (xs ++ (x ∷ ys))))
    ∙ ap (λ (a : PageAt). reached (length (xs ++ (x ∷ ys))) (xs ++ (x ∷ ys)) a) stepped
    ∙ reached_stays (length (xs ++ (x ∷ ys))) (xs ++ (x ∷ ys)) made (none_behind xs ys x final.version next none)

-- a whole page of the next version
added_image : (xs ys : List Logged) (x : Logged) (bytes : List ℕ) (at : PageAt) → x.part ≡ Image bytes → x.version ≡ (redone_by (xs ++ ys) at).version + 1
    → ranges_at (xs ++ ys) ((redone_by (xs ++ ys) at).version + 2) ≡ None → redone_by (xs ++ (x ∷ ys)) at ≡ made_by (Image bytes) (redone_by (xs ++ ys) at)
added_image xs ys x bytes at is next none =
    let final : PageAt = redone_by (xs ++ ys) at in
    let base : PageAt = newest_image at (xs ++ ys) in
    let made : PageAt = made_by (Image bytes) final in
    let steps = reached_rises (length (xs ++ ys)) (xs ++ ys) base in
    let parts = ap (λ (a : PageAt). a.version) (newest_append at xs ys) in
    let rises = newest_rises (newest_image at xs) ys in
    let image : newest_image at (xs ++ (x ∷ ys)) ≡ made =
    newest_append at xs (x ∷ ys)
    ∙ ap (λ (p : Part). newest_image (newer x.version (newest_image at xs) p) ys) is
    ∙ ap (λ (v : ℕ). newest_image (newer v (newest_image at xs) (Image bytes)) ys) next
    ∙ ap (λ (a : PageAt). newest_image a ys) (newer_yes (final.version + 1) (newest_image at xs) bytes (omega arith))
    ∙ newest_again (newest_image at xs) made ys (omega arith) in
    ap (λ (a : PageAt). reached (length (xs ++ (x ∷ ys))) (xs ++ (x ∷ ys)) a) image
    ∙ reached_stays (length (xs ++ (x ∷ ys))) (xs ++ (x ∷ ys)) made (none_behind xs ys x final.version next none)

-- the entry of the next version is what redo gives, where none of the version behind it is there
pub added_is_redone : (xs ys : List Logged) (x : Logged) (at : PageAt) → x.version ≡ (redone_by (xs ++ ys) at).version + 1
    → ranges_at (xs ++ ys) ((redone_by (xs ++ ys) at).version + 2) ≡ None → redone_by (xs ++ (x ∷ ys)) at ≡ made_by x.part (redone_by (xs ++ ys) at)
added_is_redone xs ys x at next none = one x.part refl
  where
    one : (p : Part) → x.part ≡ p → redone_by (xs ++ (x ∷ ys)) at ≡ made_by p (redone_by (xs ++ ys) at)
    one (Image bytes) is = added_image xs ys x bytes at is next none
    one (Ranges rs) is = added_ranges xs ys x rs at is next none
