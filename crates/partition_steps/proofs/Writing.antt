-- What becomes of the page writes of a redo.
use Rattle.std.proofs.Common.{◌≡◌, ℕ, ◌+◌, ◌≤◌, nat_lt, Bool, true, false, List, [], ◌∷◌, ◌++◌, map, Option, Some, None, is_some, Result, Ok, Err, refl, ap, sym, subst, ◌∙◌, inl, inr, arith}
use Rattle.std.specs.Prelude.{⊤, slice_set}
use Rattle.std.specs.List.{AllByRecursion}
use Rattle.std.proofs.lemmas.List.{map-append}
use Rattle.pcl_base.specs.declared.log.Record.{Record}
use Rattle.pcl_base.specs.declared.trace.Call.{Call}
use Rattle.pcl_base.specs.declared.trace.Call.TheVariants as call
use Rattle.text_rules.specs.StoredPage.{PageAt, BadNumber, stored_page, stored_bytes}
use Rattle.run_rules.specs.Disk.{Disk, raw_page}
use Rattle.run_rules.specs.Redo.{all_records, redone}
use Rattle.run_rules.specs.Words.{pick as pick_written}
use Rattle.node_rules.specs.Words.{pick}
use Rattle.node_rules.specs.DiskCalls.{DiskCall, WritePage}
use Rattle.disk_model.specs.Disk.{Pages, Logs}
use Rattle.disk_model.specs.Stops.{Stops, after_change}
use Rattle.home.specs.Device.{Told, Made, IsUnstopped, told_by, told_done}
use Rattle.home.proofs.Making.{made_first, told_same, write_failed}
use Rattle.install_laws.specs.InstallPlans.{PageWrite}
use Rattle.install_laws.proofs.Words.{all_weaker, set_other}
use Rattle.partition_redo.specs.Chains.{IsReadCall, PlannedView}
use Rattle.partition_redo.specs.Writes.{FailsAt, IsReading, Ran, page_write, stops_after, with_write, write_of, IsUnstopped as IsFree}
use Rattle.install_plans.specs.Plans.{writes_by, writes_of, write_of as planned_of}
use Rattle.partition_steps.specs.Carried.{AreRising, BrokenOff, MadeSome, redo_calls, write_call}

-- the call of a page's write, if there is one, and the calls of the redo of some pages
abbrev pub call_if : ℕ → Option (List ℕ) → List DiskCall
call_if p None = []
call_if p (Some bytes) = WritePage p bytes ∷ []

abbrev pub page_calls : List Record → List (List ℕ) → List ℕ → List DiskCall
page_calls rs pages [] = []
page_calls rs pages (p ∷ ps) = call_if p (page_write rs pages p) ++ page_calls rs pages ps

one_call : (rs : List Record) (p : ℕ) (o : Result PageAt BadNumber) → map write_call (planned_of rs p o) ≡ call_if p (write_of rs p o)
one_call rs p (Err bad) = refl
one_call rs p (Ok old) = by (nat_lt old.version (redone rs p old).version)
  where
    by : (b : Bool) → map write_call (pick b (record { page = p; at = redone rs p old } ∷ []) []) ≡ call_if p (pick_written b (Some (stored_bytes p (redone rs p old))) None)
    by true = refl
    by false = refl

-- the planned writes are these calls
pub planned_calls : (rs : List Record) (pages : List (List ℕ)) (ps : List ℕ) → map write_call (writes_of rs pages ps) ≡ page_calls rs pages ps
unfolding writes_of
planned_calls rs pages [] = refl
planned_calls rs pages (p ∷ ps) =
    map-append write_call (planned_of rs p (stored_page p (raw_page pages p))) (writes_of rs pages ps)
    ∙ (λ i. one_call rs p (stored_page p (raw_page pages p)) i ++ planned_calls rs pages ps i)

-- other pages than p
abbrev pub AreOther : ℕ → List ℕ → Type 0
AreOther p ps = AllByRecursion (λ q. q ≡ p → ⊥) ps

-- no page is written twice
abbrev pub AreOnce : List Record → List (List ℕ) → List ℕ → Type 0
AreOnce rs pages [] = ⊤
AreOnce rs pages (p ∷ ps) = (is_some (page_write rs pages p) ≡ true → AreOther p ps) × AreOnce rs pages ps

-- writes that rise are of different pages
module _ (rs : List Record) (p : ℕ) (ws : List PageWrite) where
  rising_from : (low m : ℕ) → low ≤ m → AreRising m ws → AreRising low ws
  rising_from low m less rising = from ws rising
    where
      from : (xs : List PageWrite) → AreRising m xs → AreRising low xs
      from [] r = tt
      from (x ∷ xs) r = let a = r.0 in (omega (arith, less, a), r.1)

  rising_rest : (low : ℕ) (o : Result PageAt BadNumber) → AreRising low (planned_of rs p o ++ ws) → AreRising low ws
  rising_rest low (Err bad) rising = rising
  rising_rest low (Ok old) rising = by (nat_lt old.version (redone rs p old).version) rising
    where
      by : (b : Bool) → AreRising low (pick b (record { page = p; at = redone rs p old } ∷ []) [] ++ ws) → AreRising low ws
      by true r = let a = r.0 in rising_from low (p + 1) (omega (arith, a)) r.1
      by false r = r

  rising_after : (low : ℕ) (o : Result PageAt BadNumber) → AreRising low (planned_of rs p o ++ ws) → is_some (write_of rs p o) ≡ true → (low ≤ p) × AreRising (p + 1) ws
  rising_after low (Err bad) rising some = absurd (cc)
  rising_after low (Ok old) rising some = by (nat_lt old.version (redone rs p old).version) rising some
    where
      by : (b : Bool) → AreRising low (pick b (record { page = p; at = redone rs p old } ∷ []) [] ++ ws) → is_some (pick_written b (Some (stored_bytes p (redone rs p old))) None) ≡ true
          → (low ≤ p) × AreRising (p + 1) ws
      by true r some = (r.0, r.1)
      by false r some = absurd (cc)

module _ (rs : List Record) (pages : List (List ℕ)) where
  above : (low : ℕ) (ps : List ℕ) → AreRising low (writes_of rs pages ps) → AllByRecursion (λ q. is_some (page_write rs pages q) ≡ true → low ≤ q) ps
  unfolding writes_of
  above low [] rising = tt
  above low (p ∷ ps) rising = (
    λ some. (rising_after rs p (writes_of rs pages ps) low (stored_page p (raw_page pages p)) rising some).0,
    above low ps (rising_rest rs p (writes_of rs pages ps) low (stored_page p (raw_page pages p)) rising),
  )

  pub rising_once : (low : ℕ) (ps : List ℕ) → AreRising low (writes_of rs pages ps) → AreOnce rs pages ps
  unfolding writes_of
  rising_once low [] rising = tt
  rising_once low (p ∷ ps) rising = (
    λ some.
        all_weaker (λ q. is_some (page_write rs pages q) ≡ true → p + 1 ≤ q) (λ q. q ≡ p → ⊥)
        (λ q more same. let big = more (ap (λ r. is_some (page_write rs pages r)) same ∙ some) in absurd (omega (arith, big, same))) ps
        (above (p + 1) ps (rising_after rs p (writes_of rs pages ps) low (stored_page p (raw_page pages p)) rising some).1),
    rising_once low ps (rising_rest rs p (writes_of rs pages ps) low (stored_page p (raw_page pages p)) rising),
  )

  -- a page's write leaves those of others
  module _ (p : ℕ) (bytes : List ℕ) where
    same_write : (q : ℕ) → (q ≡ p → ⊥) → page_write rs (slice_set pages p bytes) q ≡ page_write rs pages q
    same_write q other = ap (λ raw. write_of rs q (stored_page q raw)) (set_other pages p q bytes [] other)

    pub same_calls : (ps : List ℕ) → AreOther p ps → page_calls rs (slice_set pages p bytes) ps ≡ page_calls rs pages ps
    same_calls [] other = refl
    same_calls (q ∷ qs) other = λ i. call_if q (same_write q other.0 i) ++ same_calls qs other.1 i

    pub same_once : (ps : List ℕ) → AreOther p ps → AreOnce rs pages ps → AreOnce rs (slice_set pages p bytes) ps
    same_once [] other once = tt
    same_once (q ∷ qs) other once = (λ some. once.0 (sym (ap is_some (same_write q other.0)) ∙ some), same_once qs other.1 once.1)

-- what becomes of calls by the answer of a redo
abbrev pub Leaves : ℕ → Result ⊤ Call → List DiskCall → Told → Told → Type 0
Leaves n (Ok u) calls old new = Made n calls old None new
Leaves n (Err k) calls old new = BrokenOff n k calls old new

module _ (n : ℕ) (one : DiskCall) (calls : List DiskCall) (old new : Told) (free : IsUnstopped n old) where
  some_more : MadeSome n calls (told_done n one old) new → MadeSome n (one ∷ calls) old new
  some_more m = record { first = one ∷ m.first; rest = m.rest; all = ap (λ l. one ∷ l) m.all; made = (free, m.made) }

  leaves_more : (r : Result ⊤ Call) → Leaves n r calls (told_done n one old) new → Leaves n r (one ∷ calls) old new
  leaves_more (Ok u) rest = (free, rest)
  leaves_more (Err call.Read) rest = some_more rest
  leaves_more (Err call.Log) rest = some_more rest
  leaves_more (Err call.Write) rest = inr (free, rest)
  leaves_more (Err call.Force) rest = inr (free, rest)
  leaves_more (Err call.Trim) rest = inr (free, rest)
  leaves_more (Err call.Cut) rest = inr (free, rest)

read_leaves : (n : ℕ) (calls : List DiskCall) (old new : Told) (r : Result ⊤ Call) → IsReading r → new ≡ old → Leaves n r calls old new
read_leaves n calls old new (Ok u) reading same = absurd reading
read_leaves n calls old new (Err k) reading same = by k reading
  where
    none : MadeSome n calls old new
    none = record { first = []; rest = calls; all = refl; made = same }

    by : (k : Call) → IsReadCall k → BrokenOff n k calls old new
    by call.Read reads = none
    by call.Log reads = none
    by call.Write (inl e) = absurd (cc)
    by call.Write (inr e) = absurd (cc)
    by call.Force (inl e) = absurd (cc)
    by call.Force (inr e) = absurd (cc)
    by call.Trim (inl e) = absurd (cc)
    by call.Trim (inr e) = absurd (cc)
    by call.Cut (inl e) = absurd (cc)
    by call.Cut (inr e) = absurd (cc)

-- the calls of a redo that ran
module _ (rs : List Record) (n : ℕ) (logs : Logs) (new : Pages) (left : Stops) (r : Result ⊤ Call) where
  failed_leaves : (p : ℕ) (ps : List ℕ) (pages : List (List ℕ)) (stops : Stops) (o : Option (List ℕ)) → FailsAt n p o pages stops new left r
      → Leaves n r (call_if p o ++ page_calls rs pages ps) (told_by (Some pages) logs stops) (told_by new logs left)
  failed_leaves p ps pages stops None fails = absurd fails
  failed_leaves p ps pages stops (Some bytes) fails =
      subst (λ (z : Result ⊤ Call). Leaves n z (WritePage p bytes ∷ page_calls rs pages ps) (told_by (Some pages) logs stops) (told_by new logs left)) (sym fails.failed)
      (made_first n (WritePage p bytes ∷ []) (page_calls rs pages ps) (told_by (Some pages) logs stops) call.Write (told_by new logs left)
      (write_failed n p bytes bytes (Some pages) new logs logs stops left fails.torn refl fails.stop refl fails.fate fails.kept))

  pub ran_leaves : (ps : List ℕ) (pages : List (List ℕ)) (stops : Stops) → AreOnce rs pages ps → Ran rs n ps pages stops new left r
      → Leaves n r (page_calls rs pages ps) (told_by (Some pages) logs stops) (told_by new logs left)
  ran_leaves [] pages stops once ran =
      subst (λ (z : Result ⊤ Call). Leaves n z [] (told_by (Some pages) logs stops) (told_by new logs left)) (sym ran.1.1) (told_same (Some pages) new logs logs stops left ran.0 refl ran.1.0)
  ran_leaves (p ∷ ps) pages stops once (inl reads) =
      read_leaves n (page_calls rs pages (p ∷ ps)) (told_by (Some pages) logs stops) (told_by new logs left) r reads.failed (told_same (Some pages) new logs logs stops left reads.pages_same refl reads.stops_same)
  ran_leaves (p ∷ ps) pages stops once (inr (inl fails)) = failed_leaves p ps pages stops (page_write rs pages p) fails
  ran_leaves (p ∷ ps) pages stops once (inr (inr goes)) = by (page_write rs pages p) once.0 goes (λ more later again ran. ran_leaves ps more later again ran)
    where
      by : (o : Option (List ℕ)) → (is_some o ≡ true → AreOther p ps) → IsFree n o stops × Ran rs n ps (with_write p o pages) (stops_after n o stops) new left r
          → ((more : List (List ℕ)) (later : Stops) → AreOnce rs more ps → Ran rs n ps more later new left r → Leaves n r (page_calls rs more ps) (told_by (Some more) logs later) (told_by new logs left))
          → Leaves n r (call_if p o ++ page_calls rs pages ps) (told_by (Some pages) logs stops) (told_by new logs left)
      by None other goes rest = rest pages stops once.1 goes.1
      by (Some bytes) other goes rest =
          leaves_more n (WritePage p bytes) (page_calls rs pages ps) (told_by (Some pages) logs stops) (told_by new logs left) goes.0 r
          (subst (λ (l : List DiskCall). Leaves n r l (told_by (Some (slice_set pages p bytes)) logs (after_change stops n)) (told_by new logs left)) (same_calls rs pages p bytes ps (other refl))
          (rest (slice_set pages p bytes) (after_change stops n) (same_once rs pages p bytes ps (other refl) once.1) goes.1))

-- what becomes of the calls of a redo
pub redo_left : (n : ℕ) (d : Disk) (x : PlannedView) (pages later : Pages) (logs more : Logs) (stops left : Stops) (r : Result ⊤ Call) → x.by ≡ n → AreRising 0 (writes_by d (Some x))
    → pages ≡ Some d.pages → more ≡ logs → Ran (all_records x.config d) x.by (map (λ y. y.page) x.chains) d.pages stops later left r
    → Leaves n r (redo_calls d (Some x)) (told_by pages logs stops) (told_by later more left)
redo_left n d x pages later logs more stops left r is rising told same ran =
    let ps : List ℕ = map (λ y. y.page) x.chains in
    let rs : List Record = all_records x.config d in
    let made : Leaves x.by r (page_calls rs d.pages ps) (told_by (Some d.pages) logs stops) (told_by later logs left) =
    ran_leaves rs x.by logs later left r ps d.pages stops (rising_once rs d.pages 0 ps rising) ran in
    subst (λ (k : ℕ). Leaves k r (redo_calls d (Some x)) (told_by pages logs stops) (told_by later more left)) is
    (subst (λ (l : List DiskCall). Leaves x.by r l (told_by pages logs stops) (told_by later more left)) (sym (planned_calls rs d.pages ps))
    (subst (λ (o : Pages). Leaves x.by r (page_calls rs d.pages ps) (told_by o logs stops) (told_by later more left)) (sym told)
    (subst (λ (o : Logs). Leaves x.by r (page_calls rs d.pages ps) (told_by (Some d.pages) logs stops) (told_by later o left)) (sym same) made)))
