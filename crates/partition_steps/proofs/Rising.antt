-- The writes of planned partitions rise by page.
use Rattle.std.proofs.Common.{◌≡◌, ℕ, ◌+◌, ◌<◌, ◌≤◌, nat_lt, Bool, true, false, List, [], ◌∷◌, ◌++◌, Option, Some, None, refl, sym, subst, ◌⊎◌, inl, inr, arith}
use Rattle.pcl_base.specs.declared.log.Record.{Record}
use Rattle.pcl_base.specs.declared.message.Report.{Report}
use Rattle.text_rules.specs.StoredPage.{PageAt}
use Rattle.run_rules.specs.Disk.{Disk}
use Rattle.run_rules.specs.Redo.{all_records, redone}
use Rattle.node_rules.specs.InstallRule.{is_complete}
use Rattle.node_rules.specs.Words.{pick}
use Rattle.node_rules.specs.LockTable.{LockTable, pages_of}
use Rattle.node_rules.specs.NodeState.{NodeState, table_at}
use Rattle.node_rules.specs.Reports.{gather}
use Rattle.node_rules.specs.Work.{Outcome, Goes, Differs, and_so, read_page}
use Rattle.install_laws.specs.InstallPlans.{Stays, PageWrite, PartitionPlan, RedoPlan, after_writes, plan_complete, plan_gathered, plan_page, plan_pages, plan_rebuilt, plan_redo, plan_report, plan_report_in}
use Rattle.install_laws.specs.Laws.{AreNewer}
use Rattle.install_laws.proofs.Outcomes.{On, on_so, on_then}
use Rattle.install_laws.proofs.Parts.{writes_are_newer_law}
use Rattle.install_laws.proofs.Words.{AreRising as Rise, pages_rise}
use Rattle.partition_steps.specs.Carried.{AreRising}
use Rattle.partition_steps.specs.Laws.{PlannedRise, ReportedRise}

pub newer_rise : (rs : List Record) (pages : List (List ℕ)) (low : ℕ) (ws : List PageWrite) → AreNewer rs pages low ws → AreRising low ws
newer_rise rs pages low [] newer = tt
newer_rise rs pages low (x ∷ xs) newer = (newer.0, newer_rise rs pages (x.page + 1) xs newer.2)

pub planned_rise_law : PlannedRise
planned_rise_law d before v q n t p low goes =
    newer_rise (all_records n.home.config d) d.pages 0 _ (writes_are_newer_law d d.pages before v q n _ low goes).1

-- at most page p is written
abbrev IsAt : ℕ → List PageWrite → Type 0
IsAt p ws = (ws ≡ []) ⊎ ((at : PageAt) × (ws ≡ record { page = p; at = at } ∷ []))

rising_from : (low m : ℕ) (ws : List PageWrite) → low ≤ m → AreRising m ws → AreRising low ws
rising_from low m [] less rising = tt
rising_from low m (x ∷ xs) less rising = let a = rising.0 in (omega (arith, less, a), rising.1)

rising_at : (p low : ℕ) (ws xs : List PageWrite) → low ≤ p → IsAt p ws → AreRising (p + 1) xs → AreRising low (ws ++ xs)
rising_at p low ws xs less (inl none) rising = subst (λ (l : List PageWrite). AreRising low (l ++ xs)) (sym none) (rising_from low (p + 1) xs (omega (arith, less)) rising)
rising_at p low ws xs less (inr one) rising = subst (λ (l : List PageWrite). AreRising low (l ++ xs)) (sym one.1) (less, rising)

module _ (needed : LockTable → ℕ → Bool) (rs : List Record) (pages : List (List ℕ)) where
  page_at : (b : Bool) (p : ℕ) (t : LockTable) → On (λ r. IsAt p r.writes) (plan_page b rs pages p t)
  page_at false p t = inl refl
  page_at true p t = by (read_page pages p)
    where
      test : (old new : PageAt) (b : Bool) → IsAt p (pick b (record { page = p; at = new } ∷ []) [])
      test old new true = inr (new, refl)
      test old new false = inl refl

      by : (o : Outcome PageAt) → On (λ r. IsAt p r.writes) (and_so o (λ old. plan_redo p old (redone rs p old) t))
      by (Goes old) = test old (redone rs p old) (nat_lt old.version (redone rs p old).version)
      by (Differs n e f) = tt

  redo_rises : (low : ℕ) (ps : List ℕ) (t : LockTable) → Rise low ps → On (λ r. AreRising low r.writes) (plan_pages needed rs pages ps t)
  unfolding plan_pages
  redo_rises low [] t rise = tt
  redo_rises low (p ∷ ps) t rise =
      on_then (λ (r : RedoPlan). IsAt p r.writes) (λ (r : RedoPlan). AreRising low r.writes) (plan_page (needed t p) rs pages p t)
      (λ r. and_so (plan_pages needed rs pages ps r.table) (after_writes r.writes)) (page_at (needed t p) p t)
      (λ r at.
      on_so (λ (x : RedoPlan). AreRising (p + 1) x.writes) (λ (x : RedoPlan). AreRising low x.writes) (plan_pages needed rs pages ps r.table) (after_writes r.writes)
      (redo_rises (p + 1) ps r.table rise.1) (λ x rising. rising_at p low r.writes x.writes rise.0 at rising))

abbrev Rises : PartitionPlan → Type 0
Rises plan = AreRising 0 plan.writes

report_rises : (d : Disk) (from : ℕ) (r : Report) (n : NodeState) → r.partition < n.home.config.nodes → On Rises (plan_report d d.pages from r n)
unfolding plan_report plan_rebuilt
report_rises d from r n low = in_table (table_at n r.partition)
  where
    complete : (b : Bool) (t : LockTable) → On Rises (plan_complete b Stays d d.pages r.partition n t)
    complete false t = tt
    complete true t =
        on_so (λ (x : RedoPlan). AreRising 0 x.writes) Rises (plan_pages (λ u p. true) (all_records n.home.config d) d.pages (pages_of n.home.config r.partition) t) _
        (redo_rises (λ u p. true) (all_records n.home.config d) d.pages 0 (pages_of n.home.config r.partition) t (pages_rise n.home.config r.partition low)) (λ x rising. rising)

    gathered : (b : Bool) (t : LockTable) → On Rises (plan_gathered b d d.pages from r n t)
    gathered true t = tt
    gathered false t = complete (is_complete n.view r.partition (Some (gather t from r))) (gather t from r)

    in_table : (o : Option LockTable) → On Rises (plan_report_in o d d.pages from r n)
    in_table None = tt
    in_table (Some t) = gathered t.serving t

pub reported_rise_law : ReportedRise
reported_rise_law d from r n t p low goes = subst (λ (o : Outcome PartitionPlan). On Rises o) goes (report_rises d from r n low)
