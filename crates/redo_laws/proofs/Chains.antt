-- Redo of one page, over the entries of the page alone: whole pages first, then one version after another.
use Rattle.std.proofs.Common.{◌≡◌, refl, sym, ap, ◌∙◌, ℕ, zero, suc, ◌+◌, ◌<◌, ◌≤◌, Bool, true, false, nat_lt, ◌==◌, List, [], ◌∷◌, length, Option, Some, None, arith}
use Rattle.std.proofs.lemmas.Bool.Decides.{nat_tests}
use Rattle.pcl_base.specs.declared.log.Logged.{Logged}
use Rattle.pcl_base.specs.declared.log.ChangedRange.{ChangedRange}
use Rattle.text_rules.specs.StoredPage.{PageAt}
use Rattle.text_rules.specs.ChangedRanges.{put_ranges}
use Rattle.run_rules.specs.Words.{pick}
use Rattle.run_rules.specs.Redo.{ranges_or, ranges_at, step_on, reached}

-- how many entries are above a version
abbrev pub above : ℕ → List Logged → ℕ
above v [] = 0
above v (x ∷ xs) = pick (nat_lt v x.version) 1 0 + above v xs

pub above_most : (v : ℕ) (xs : List Logged) → above v xs ≤ length xs
above_most v [] = omega arith
above_most v (x ∷ xs) = one (nat_lt v x.version) (above_most v xs)
  where
    one : (b : Bool) → above v xs ≤ length xs → pick b 1 0 + above v xs ≤ suc (length xs)
    one true h = omega arith
    one false h = omega arith

-- fewer are above a later one
above_later : (v : ℕ) (xs : List Logged) → above (v + 1) xs ≤ above v xs
above_later v [] = omega arith
above_later v (x ∷ xs) = one (nat_lt (v + 1) x.version) (nat_lt v x.version) refl refl (above_later v xs)
  where
    one : (a b : Bool) → nat_lt (v + 1) x.version ≡ a → nat_lt v x.version ≡ b → above (v + 1) xs ≤ above v xs → pick a 1 0 + above (v + 1) xs ≤ pick b 1 0 + above v xs
    one true true p q h = omega arith
    one true false p q h = absurd (grind (arith, nat_tests))
    one false true p q h = omega arith
    one false false p q h = omega arith

-- an entry of the next version is above this one and not above the next
pub above_found : (v : ℕ) (xs : List Logged) (rs : List ChangedRange) → ranges_at xs (v + 1) ≡ Some rs → above (v + 1) xs < above v xs
unfolding ranges_at
above_found v [] rs e = absurd (cc)
above_found v (x ∷ xs) rs e = one (above_found v xs rs) (x.version == v + 1) refl e
  where
    here : (a b : Bool) → nat_lt (v + 1) x.version ≡ a → nat_lt v x.version ≡ b → x.version ≡ v + 1 → above (v + 1) xs ≤ above v xs → pick a 1 0 + above (v + 1) xs < pick b 1 0 + above v xs
    here true b p q same h = absurd (grind (arith, nat_tests))
    here false true p q same h = omega arith
    here false false p q same h = absurd (grind (arith, nat_tests))

    behind : (a b : Bool) → nat_lt (v + 1) x.version ≡ a → nat_lt v x.version ≡ b → above (v + 1) xs < above v xs → pick a 1 0 + above (v + 1) xs < pick b 1 0 + above v xs
    behind true true p q h = omega arith
    behind true false p q h = absurd (grind (arith, nat_tests))
    behind false true p q h = omega arith
    behind false false p q h = omega arith

    one : (ranges_at xs (v + 1) ≡ Some rs → above (v + 1) xs < above v xs) → (b : Bool) → (x.version == v + 1) ≡ b → ranges_or b x.part (ranges_at xs (v + 1)) ≡ Some rs → above (v + 1) (x ∷ xs) < above v (x ∷ xs)
    one again true is found = here _ _ refl refl (grind (arith, nat_tests)) (above_later v xs)
    one again false is found = behind _ _ refl refl (again found)

-- a step, by what the logs have of the next version
pub reached_none : (n : ℕ) (xs : List Logged) (at : PageAt) → ranges_at xs (at.version + 1) ≡ None → reached (suc n) xs at ≡ at
unfolding reached
reached_none n xs at e = ap (λ (o : Option (List ChangedRange)). step_on o at (reached n xs)) e

pub reached_some : (n : ℕ) (xs : List Logged) (at : PageAt) (rs : List ChangedRange) → ranges_at xs (at.version + 1) ≡ Some rs
    → reached (suc n) xs at ≡ reached n xs (record { version = at.version + 1; bytes = put_ranges rs at.bytes })
unfolding reached
reached_some n xs at rs e = ap (λ (o : Option (List ChangedRange)). step_on o at (reached n xs)) e

pub reached_zero : (xs : List Logged) (at : PageAt) → reached 0 xs at ≡ at
unfolding reached
reached_zero xs at = refl

-- where nothing has the next version, no number of steps leads on
pub reached_stays : (n : ℕ) (xs : List Logged) (at : PageAt) → ranges_at xs (at.version + 1) ≡ None → reached n xs at ≡ at
reached_stays zero xs at e = reached_zero xs at
reached_stays (suc n) xs at e = reached_none n xs at e

-- so many steps and then more
pub reached_more : (n m : ℕ) (xs : List Logged) (at : PageAt) → reached (n + m) xs at ≡ reached m xs (reached n xs at)
reached_more zero m xs at =
    let same : 0 + m ≡ m = omega arith in
    rw same (ap (λ (a : PageAt). reached m xs a) (sym (reached_zero xs at)))
reached_more (suc n) m xs at = one (ranges_at xs (at.version + 1)) refl (reached_more n m xs)
  where
    one : (o : Option (List ChangedRange)) → ranges_at xs (at.version + 1) ≡ o → ((a : PageAt) → reached (n + m) xs a ≡ reached m xs (reached n xs a))
        → reached (suc n + m) xs at ≡ reached m xs (reached (suc n) xs at)
    one None e again =
        let more : suc n + m ≡ suc (n + m) = omega arith in
        rw more (reached_none (n + m) xs at e ∙ sym (ap (λ (a : PageAt). reached m xs a) (reached_none n xs at e) ∙ reached_stays m xs at e))
    one (Some rs) e again =
        let more : suc n + m ≡ suc (n + m) = omega arith in
        let next : PageAt = record { version = at.version + 1; bytes = put_ranges rs at.bytes } in
        rw more (reached_some (n + m) xs at rs e ∙ again next ∙ sym (ap (λ (a : PageAt). reached m xs a) (reached_some n xs at rs e)))

-- where no entry is above a version, none has the next one
none_above : (v : ℕ) (xs : List Logged) → above v xs ≤ 0 → ranges_at xs (v + 1) ≡ None
none_above v xs h = one (ranges_at xs (v + 1)) refl
  where
    one : (o : Option (List ChangedRange)) → ranges_at xs (v + 1) ≡ o → ranges_at xs (v + 1) ≡ None
    one None e = e
    one (Some rs) e = let found = above_found v xs rs e in absurd (omega arith)

-- as many steps as entries are above the version are enough
pub reached_enough : (n m : ℕ) (xs : List Logged) (at : PageAt) → above at.version xs ≤ n → above at.version xs ≤ m → reached n xs at ≡ reached m xs at
reached_enough zero m xs at f g = reached_zero xs at ∙ sym (reached_stays m xs at (none_above at.version xs f))
reached_enough (suc n) zero xs at f g = reached_stays (suc n) xs at (none_above at.version xs g) ∙ sym (reached_zero xs at)
reached_enough (suc n) (suc m) xs at f g = one (ranges_at xs (at.version + 1)) refl (reached_enough n m xs)
  where
    one : (o : Option (List ChangedRange)) → ranges_at xs (at.version + 1) ≡ o
        → ((a : PageAt) → above a.version xs ≤ n → above a.version xs ≤ m → reached n xs a ≡ reached m xs a)
        → reached (suc n) xs at ≡ reached (suc m) xs at
    one None e again = reached_none n xs at e ∙ sym (reached_none m xs at e)
    one (Some rs) e again =
        let found = above_found at.version xs rs e in
        reached_some n xs at rs e
        ∙ again (record { version = at.version + 1; bytes = put_ranges rs at.bytes }) (omega arith) (omega arith)
        ∙ sym (reached_some m xs at rs e)

-- steps raise the version
pub reached_rises : (n : ℕ) (xs : List Logged) (at : PageAt) → at.version ≤ (reached n xs at).version
reached_rises zero xs at =
    let same = ap (λ (a : PageAt). a.version) (reached_zero xs at) in omega arith
reached_rises (suc n) xs at = one (ranges_at xs (at.version + 1)) refl (reached_rises n xs)
  where
    one : (o : Option (List ChangedRange)) → ranges_at xs (at.version + 1) ≡ o
        → ((a : PageAt) → a.version ≤ (reached n xs a).version) → at.version ≤ (reached (suc n) xs at).version
    one None e again = let same = ap (λ (a : PageAt). a.version) (reached_none n xs at e) in omega arith
    one (Some rs) e again =
        let next : PageAt = record { version = at.version + 1; bytes = put_ranges rs at.bytes } in
        let same = ap (λ (a : PageAt). a.version) (reached_some n xs at rs e) in
        let more = again next in
        omega arith

-- fewer are above where steps lead than above where they begin
pub above_rises : (v w : ℕ) (xs : List Logged) → v ≤ w → above w xs ≤ above v xs
above_rises v w [] h = omega arith
above_rises v w (x ∷ xs) h = one (nat_lt w x.version) (nat_lt v x.version) refl refl (above_rises v w xs h)
  where
    one : (a b : Bool) → nat_lt w x.version ≡ a → nat_lt v x.version ≡ b → above w xs ≤ above v xs → pick a 1 0 + above w xs ≤ pick b 1 0 + above v xs
    one true true p q g = omega arith
    one true false p q g = absurd (grind (arith, nat_tests))
    one false true p q g = omega arith
    one false false p q g = omega arith

-- after all steps nothing has the next version
pub reached_last : (n : ℕ) (xs : List Logged) (at : PageAt) → above at.version xs ≤ n → ranges_at xs ((reached n xs at).version + 1) ≡ None
reached_last zero xs at h = rw (reached_zero xs at) (none_above at.version xs h)
reached_last (suc n) xs at h = one (ranges_at xs (at.version + 1)) refl (reached_last n xs)
  where
    one : (o : Option (List ChangedRange)) → ranges_at xs (at.version + 1) ≡ o
        → ((a : PageAt) → above a.version xs ≤ n → ranges_at xs ((reached n xs a).version + 1) ≡ None)
        → ranges_at xs ((reached (suc n) xs at).version + 1) ≡ None
    one None e again = rw (reached_none n xs at e) e
    one (Some rs) e again =
        let found = above_found at.version xs rs e in
        rw (reached_some n xs at rs e) (again (record { version = at.version + 1; bytes = put_ranges rs at.bytes }) (omega arith))

-- the chain from where steps have led ends where the whole chain ends
pub reached_rest : (k n : ℕ) (xs : List Logged) (at : PageAt) → above at.version xs ≤ n → reached n xs (reached k xs at) ≡ reached n xs at
reached_rest k n xs at h =
    let rest = reached_enough n (k + n) xs at h (omega arith) in
    sym (rest ∙ reached_more k n xs at)

-- only what stands at the next versions counts
pub reached_same : (n : ℕ) (xs ys : List Logged) (at : PageAt) → ((v : ℕ) → at.version < v → ranges_at xs v ≡ ranges_at ys v) → reached n xs at ≡ reached n ys at
reached_same zero xs ys at h = reached_zero xs at ∙ sym (reached_zero ys at)
reached_same (suc n) xs ys at h = one (ranges_at xs (at.version + 1)) refl (reached_same n xs ys)
  where
    next_same : ranges_at xs (at.version + 1) ≡ ranges_at ys (at.version + 1)
    next_same = h (at.version + 1) (omega arith)

    one : (o : Option (List ChangedRange)) → ranges_at xs (at.version + 1) ≡ o
        → ((a : PageAt) → ((v : ℕ) → a.version < v → ranges_at xs v ≡ ranges_at ys v) → reached n xs a ≡ reached n ys a)
        → reached (suc n) xs at ≡ reached (suc n) ys at
    one None e again = reached_none n xs at e ∙ sym (reached_none n ys at (sym next_same ∙ e))
    one (Some rs) e again =
        reached_some n xs at rs e
        ∙ again (record { version = at.version + 1; bytes = put_ranges rs at.bytes }) (λ v g. h v (omega arith))
        ∙ sym (reached_some n ys at rs (sym next_same ∙ e))
