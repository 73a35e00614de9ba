-- What commits make of the pages.
use Rattle.std.proofs.Common.{◌≡◌, refl, sym, ap, subst, ◌∙◌, ℕ, suc, ◌+◌, ◌<◌, List, [], ◌∷◌, length, Option, Some, None, is_some, IfSome, Result, Ok, Err, arith}
use Rattle.std.specs.Result.{result_ok}
use Rattle.std.proofs.lemmas.List.{length-replicate, get_or-replicate}
use Rattle.std.proofs.lemmas.List.Sums.{fold-append}
use Rattle.pcl_base.specs.declared.script.Step.{Step}
use Rattle.pcl_base.specs.declared.trace.Entry.{Entry}
use Rattle.run_rules.specs.Base.{Base, BasePage, first_base}
use Rattle.run_rules.specs.Now.{Story, first_story, ran_on, base_after, after, after_all, after_entry, now, first_fault}
use Rattle.run_rules.specs.Running.{Difference, worked, raised_from, with_versions, run_script}
use Rattle.run_rules.specs.Script.{Moment, Asks, Gets, Writes, Commits, moments_of, moments, script}
use Rattle.run_rules.specs.Serial.{is_serial}
use Rattle.run_rules.specs.Words.{pick}
use Rattle.run_laws.proofs.Runs.{worked-written}
use Rattle.page_protocol.specs.Bytes.{Leaves}
use Rattle.page_laws.specs.Moment.Looks.{accesses_of, accesses_in, HasPage, IsNow}
use Rattle.page_laws.specs.Moment.Commit.{CommitRuns, NowBegins, NowHasAllPages, PagesAreNow, NowHasPages, NowIsSerial}
use Rattle.page_laws.proofs.MomentParts.ByPage.{GoesWell, left_from, runs_well, runs_page}
use Rattle.page_laws.proofs.MomentParts.Growing.{commit_tells_law}

-- ---- as many pages as the database has

raised_length : (steps : List Step) (k : ℕ) (pages : Base) → length (raised_from steps k pages) ≡ length pages
unfolding raised_from
raised_length steps k [] = refl
raised_length steps k (page ∷ pages) = ap suc (raised_length steps (k + 1) pages)

abbrev HasLength : ℕ → Option Base → Type 0
HasLength n o = IfSome o (λ (b : Base). length b ≡ n)

ran_length : (n : ℕ) (o : Option Base) (steps : List Step) → HasLength n o → HasLength n (ran_on o steps)
unfolding ran_on
ran_length n None steps has = tt
ran_length n (Some base) steps has = by (worked base 0 steps) refl
  where
    by : (r : Result Base Difference) → worked base 0 steps ≡ r → HasLength n (result_ok (with_versions steps r))
    by (Ok w) e = raised_length steps 0 w ∙ (worked-written steps base 0 w e).count ∙ has
    by (Err d) e = tt

step_length : (n : ℕ) (s : Story) (m : Moment) → HasLength n s.base → HasLength n (base_after s m)
step_length n s (Asks u w) has = has
step_length n s (Gets u q v bytes) has = has
step_length n s (Writes u q v) has = has
step_length n s (Commits u) has = ran_length n s.base (script u s.seen) has

all_length : (n : ℕ) (s : Story) (ms : List Moment) → HasLength n s.base → HasLength n (after_all s ms).base
unfolding after
all_length n s [] has = has
all_length n s (m ∷ ms) has = all_length n (after s m) ms (step_length n s m has)

pub now_has_all_pages_law : NowHasAllPages
now_has_all_pages_law c trace base known =
    subst (HasLength c.pages) known (all_length c.pages (first_story c) (moments trace) (length-replicate c.pages _))

-- ---- all pages, and each

pub now_has_pages_law : NowHasPages
now_has_pages_law c trace page is p low = subst (λ o. HasPage o p (page p)) (sym is.known) (is.pages p low)

pub pages_are_now_law : PagesAreNow
pages_are_now_law c trace page some each = by (now c trace) refl
  where
    by : (o : Option Base) → now c trace ≡ o → IsNow c trace page
    by None e = absurd (subst (λ o. HasPage o 0 (page 0)) e (each 0 some))
    by (Some base) e = record { base = base; known = e; pages = λ p low. subst (λ o. HasPage o p (page p)) e (each p low) }

pub now_begins_law : NowBegins
unfolding moments
now_begins_law c =
    record { base = first_base c; known = refl; pages = λ p low. get_or-replicate c.pages p _ _ low }

-- ---- a commit

ran_some : (o : Option Base) (base out : Base) (steps : List Step) → o ≡ Some base → run_script base steps ≡ Ok out → ran_on o steps ≡ Some out
unfolding ran_on
ran_some o base out steps e ran = ap (λ (x : Option Base). ran_on x steps) e ∙ ap result_ok ran

pub commit_runs_law : CommitRuns
unfolding accesses_in
commit_runs_law c old new u page left adds is leaves within =
    record {
      base = left_from steps 0 is.base;
      known = (commit_tells_law c old new u adds).ran ∙ ran_some (now c old) is.base (left_from steps 0 is.base) steps is.known (runs_well steps is.base left well (λ p past. within p (omega (arith, past, count))));
      pages = λ p low. runs_page steps is.base left p (page p).version (page p).bytes well (omega (arith, low, count)) (is.pages p low);
    }
  where
    steps : List Step
    steps = script u (moments old)

    count : length is.base ≡ c.pages
    count = now_has_all_pages_law c old is.base is.known

    well : GoesWell steps is.base left
    well p low =
        let below : p < c.pages = omega (arith, low, count) in
        subst (λ bytes. Leaves (accesses_of p steps) bytes (left p)) (sym (ap (λ (x : BasePage). x.bytes) (is.pages p below))) (leaves p below)

-- ---- serial

none_more : (s : Story) (ms : List Moment) → s.base ≡ None → (after_all s ms).base ≡ None
unfolding after ran_on
none_more s [] none = none
none_more s (m ∷ ms) none = none_more (after s m) ms (by m)
  where
    by : (m : Moment) → base_after s m ≡ None
    by (Asks u w) = none
    by (Gets u q v bytes) = none
    by (Writes u q v) = none
    by (Commits u) = ap (λ o. ran_on o (script u s.seen)) none

serial_from : (n : ℕ) (s : Story) (es : List Entry) (base : Base) → (after_all s (moments es)).base ≡ Some base → first_fault is_serial n s es ≡ None
unfolding first_fault moments
serial_from n s [] base known = refl
serial_from n s (e ∷ es) base known =
    by (after_entry s e).base refl (serial_from (n + 1) (after_entry s e) es base more)
  where
    more : (after_all (after_entry s e) (moments es)).base ≡ Some base
    more = sym (ap (λ (x : Story). x.base) (fold-append after s (moments_of e) (moments es))) ∙ known

    by : (o : Option Base) → (after_entry s e).base ≡ o → first_fault is_serial (n + 1) (after_entry s e) es ≡ None
        → pick (is_some (after_entry s e).base) (first_fault is_serial (n + 1) (after_entry s e) es) (Some n) ≡ None
    by None f rest = let bad : None ≡ Some base = sym (none_more (after_entry s e) (moments es) f) ∙ more in absurd (cc)
    by (Some b) f rest = ap (λ o. pick (is_some o) (first_fault is_serial (n + 1) (after_entry s e) es) (Some n)) f ∙ rest

pub now_is_serial_law : NowIsSerial
now_is_serial_law c trace base known = serial_from 1 (first_story c) trace base known
