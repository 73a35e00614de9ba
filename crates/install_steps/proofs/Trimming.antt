-- A trim of the torn rest of a log changes no whole record, and so no plan of redo.
use Rattle.std.proofs.Common.{inl, inr, ◌≡◌, ℕ, Bool, true, false, nat_lt, List, [], length, take, slice_set, Option, Some, None, Result, Ok, Err, refl, ap, sym, subst, ◌∙◌, ◌<◌, arith}
use Rattle.std.specs.Prelude.{◌⊎◌, IfOk, IfSome, slice_index_or}
use Rattle.pcl_base.specs.Limits.{Sizes}
use Rattle.text_rules.specs.LogRecord.{records_of, whole_len}
use Rattle.run_rules.specs.Disk.{Disk, log_at, raw_page}
use Rattle.node_rules.specs.Words.{pick}
use Rattle.disk_model.specs.Disk.{Pages, Logs, Rooms, HasSizes, IsIn}
use Rattle.redo_laws.proofs.Disks.{item_of_changed}
use Rattle.redo_laws.proofs.Logs.{records_trimmed}
use Rattle.redo_log.specs.Told.{IsLog}
use Rattle.partition_redo.proofs.Walking.{log_told}
use Rattle.node_parts.specs.declared.fault.StepFault.{StepFault}
use Rattle.partition_steps.specs.Stays.{HasSameRecords, IsSameFor, StaysFor}
use Rattle.install_steps.specs.Births.{KeepsRecords, kept_of, trimmed, trimmed_logs}

-- what stays of a log is its whole records
pub kept_is : (c : Sizes) (log : List ℕ) (keep : Option ℕ) → keep ≡ kept_of c log → IfSome keep (λ k. k ≡ whole_len c log)
kept_is c log keep is = subst (λ o. IfSome o (λ k. k ≡ whole_len c log)) (sym is) (by (nat_lt (whole_len c log) (length log)))
  where
    by : (b : Bool) → IfSome (pick b (Some (whole_len c log)) None) (λ k. k ≡ whole_len c log)
    by true = refl
    by false = tt

-- so it does of the node's log, where that is told
pub keeps_found : (c : Sizes) (logs : Logs) (me : ℕ) (keep : Option ℕ) → IsIn logs me → ((log : List ℕ) → IsLog logs me log → keep ≡ kept_of c log) → KeepsRecords c me keep logs
keeps_found c logs me keep inside found d told = kept_is c (log_at d me) keep (found (log_at d me) (log_told d logs me inside told))

-- the same of an answer
pub keeps_answered : (c : Sizes) (logs : Logs) (me : ℕ) (r : Result (Option ℕ) StepFault) → IsIn logs me → ((log : List ℕ) → IsLog logs me log → IfOk r (λ o. o ≡ kept_of c log)) → IfOk r (λ o. KeepsRecords c me o logs)
keeps_answered c logs me (Ok keep) inside found = keeps_found c logs me keep inside found
keeps_answered c logs me (Err f) inside found = tt

-- a node has a log, where these are told
pub log_inside : (c : Sizes) (me : ℕ) (pages : Pages) (logs : Logs) (rooms : Rooms) → HasSizes c pages logs rooms → me < c.nodes → IsIn logs me
log_inside c me pages None rooms sizes low = tt
log_inside c me pages (Some l) rooms sizes low = let long = sizes.logs_told in omega (arith, long, low)

module _ (c : Sizes) (me : ℕ) (keep : Option ℕ) where
  -- the records of each log
  pub records_kept : (d : Disk) (m : ℕ) → IfSome keep (λ k. k ≡ whole_len c (log_at d me)) → records_of c (log_at (trimmed me keep d) m) ≡ records_of c (log_at d m)
  records_kept d m is = by keep is
    where
      by : (o : Option ℕ) → IfSome o (λ k. k ≡ whole_len c (log_at d me)) → records_of c (log_at (trimmed me o d) m) ≡ records_of c (log_at d m)
      by None is = refl
      by (Some k) is = one (item_of_changed d.logs me m (take k (log_at d me)) [])
        where
          one : (slice_index_or (slice_set d.logs me (take k (log_at d me))) m [] ≡ take k (log_at d me)) × (m ≡ me) ⊎ (slice_index_or (slice_set d.logs me (take k (log_at d me))) m [] ≡ slice_index_or d.logs m [])
              → records_of c (log_at (trimmed me (Some k) d) m) ≡ records_of c (log_at d m)
          one (inl h) =
              ap (records_of c) h.0 ∙ (ap (λ (n : ℕ). records_of c (take n (log_at d me))) is ∙ (records_trimmed c (log_at d me) ∙ ap (λ (n : ℕ). records_of c (log_at d n)) (sym h.1)))
          one (inr h) = ap (records_of c) h

-- the logs are told after a trim where they were
pub logs_trimmed : (me : ℕ) (keep : Option ℕ) (logs : Logs) (d : Disk) → logs ≡ Some d.logs → trimmed_logs me keep logs ≡ Some (trimmed me keep d).logs
logs_trimmed me None logs d told = told
logs_trimmed me (Some k) logs d told = ap (trimmed_logs me (Some k)) told

-- and only there
pub record WasTold (me : ℕ) (keep : Option ℕ) (logs : Logs) (d : Disk) : Type 0 where
  pub before : Disk
  pub told : logs ≡ Some before.logs
  pub pages : before.pages ≡ d.pages
  pub same : trimmed me keep before ≡ d

pub was_told : (me : ℕ) (keep : Option ℕ) (logs : Logs) (d : Disk) → trimmed_logs me keep logs ≡ Some d.logs → WasTold me keep logs d
was_told me None None d is = absurd (cc)
was_told me (Some k) None d is = absurd (cc)
was_told me None (Some l) d is =
    let logs : l ≡ d.logs = cc in
    record { before = record d { logs = l }; told = refl; pages = refl; same = λ i. record d { logs = logs i } }
was_told me (Some k) (Some l) d is =
    let logs : slice_set l me (take k (slice_index_or l me [])) ≡ d.logs = cc in
    record { before = record d { logs = l }; told = refl; pages = refl; same = λ i. record d { logs = logs i } }

-- a trim changes nothing for any plan
pub stays_trimmed : (c : Sizes) (me q : ℕ) (keep : Option ℕ) (pages : Pages) (logs : Logs) → KeepsRecords c me keep logs → StaysFor c q pages logs pages (trimmed_logs me keep logs)
stays_trimmed c me q keep pages logs keeps = record {
  for_logs = λ e told.
      let was = was_told me keep logs e told in
      record { d = was.before; told = was.told; same = same e was };
  for_disk = λ e stored told.
      let was = was_told me keep logs e told in
      record {
        d = was.before;
        pages_told = stored ∙ ap (λ (l : List (List ℕ)). Some l) (sym was.pages);
        logs_told = was.told;
        same = record { pages = λ p of. ap (λ (l : List (List ℕ)). raw_page l p) (sym was.pages); records = same e was };
      };
}
  where
    same : (e : Disk) (was : WasTold me keep logs e) → HasSameRecords c was.before e
    same e was n low = ap (λ (x : Disk). records_of c (log_at x n)) (sym was.same) ∙ records_kept c me keep was.before n (keeps was.before was.told)

-- so the disk is the same for each plan
pub same_trimmed : (c : Sizes) (me q : ℕ) (keep : Option ℕ) (d : Disk) → IfSome keep (λ k. k ≡ whole_len c (log_at d me)) → IsSameFor c q d (trimmed me keep d)
same_trimmed c me q keep d is = record { pages = λ p of. page keep p; records = λ n low. records_kept c me keep d n is }
  where
    page : (o : Option ℕ) (p : ℕ) → raw_page (trimmed me o d).pages p ≡ raw_page d.pages p
    page None p = refl
    page (Some k) p = refl

-- the pages are the same
pub pages_trimmed : (me : ℕ) (keep : Option ℕ) (d : Disk) → (trimmed me keep d).pages ≡ d.pages
pages_trimmed me None d = refl
pages_trimmed me (Some k) d = refl
