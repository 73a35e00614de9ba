-- A table whose pages are redone where that is needed, and that is then settled.
use Rattle.std.proofs.Common.{◌≡◌, ℕ, ◌<◌, Bool, Option, Some, None, List, fold, ap, sym, ◌∙◌, subst}
use Rattle.std.specs.List.{filter}
use Rattle.std.specs.Option.{IfSome}
use Rattle.std.specs.Prelude.{Result, Ok, Err, IsErrAnd}
use Rattle.pcl_base.specs.Limits.{Sizes}
use Rattle.run_rules.specs.Disk.{Disk}
use Rattle.run_rules.specs.Redo.{all_records}
use Rattle.node_rules.specs.LockTable.{LockTable, pages_of, entry_at}
use Rattle.node_rules.specs.Work.{Outcome, Goes, Differs, and_so}
use Rattle.install_laws.specs.InstallPlans.{Turnover, Due, RedoPlan, PartitionPlan, plan_pages, plan_settling, with_settled}
use Rattle.install_laws.proofs.Words.{pages_rise}
use Rattle.partition_redo.specs.Chains.{PlannedView, AreAll, IsRedone, Bad, first_bad}
use Rattle.disk_model.specs.Disk.{Pages, Logs}
use Rattle.node_parts.specs.declared.fault.StepFault.{StepFault}
use Rattle.node_parts.specs.declared.fault.StepFault.TheVariants.{NoMemory, Halted, Differs as differing}
use Rattle.install_plans.specs.declared.plan.PartitionPlan.{PartitionPlan as Made}
use Rattle.install_plans.specs.Plans.{CanRedo, Plans, Redoes, set_one, writes_of, writes_by, listed_by, versions_by}
use Rattle.install_plans.proofs.Redone.{same_all, redone_all, bad_one}

-- the writes of a redo are those of the pages that it lists
writes_listed : (c : Sizes) (d : Disk) (ps : List ℕ) (r : Option PlannedView) → listed_by r ≡ ps → IfSome r (λ x. x.config ≡ c)
    → writes_of (all_records c d) d.pages ps ≡ writes_by d r
unfolding writes_of
writes_listed c d ps None listed of = ap (writes_of (all_records c d) d.pages) (sym listed)
writes_listed c d ps (Some x) listed of = λ i. writes_of (all_records (sym of i) d) d.pages (sym listed i)

-- a redo that can be carried out is of the configuration
pub of_config : (c : Sizes) (me : ℕ) (pages : Pages) (logs : Logs) (r : Option PlannedView) → IfSome r (CanRedo c me pages logs) → IfSome r (λ x. x.config ≡ c)
of_config c me pages logs None can = tt
of_config c me pages logs (Some x) can = can.config

module _ (needed : LockTable → ℕ → Bool) (c : Sizes) (d : Disk) (local : (u t : LockTable) (p : ℕ) → entry_at u p ≡ entry_at t p → needed u p ≡ needed t p)
    (q me : ℕ) (o : Turnover) (begins : Bool) (f : LockTable → LockTable) (t : LockTable) (within : q < c.nodes) where
  -- the pages that are redone
  abbrev pub asked : List ℕ
  asked = filter (needed t) (pages_of c q)

  -- what comes after redo
  abbrev settled : RedoPlan → PartitionPlan
  settled r = with_settled o begins r.writes (plan_settling me (pages_of c q) (f r.table))

  -- redo, and what comes after it
  abbrev pub redone_settled : Outcome PartitionPlan
  redone_settled = and_so (plan_pages needed (all_records c d) d.pages (pages_of c q) t) settled

  -- redo of the pages comes to this
  pub redone_pages : (r : Option PlannedView) → AreAll (IsRedone c d) asked (versions_by r) → first_bad d asked ≡ None → listed_by r ≡ asked → IfSome r (λ x. x.config ≡ c)
      → plan_pages needed (all_records c d) d.pages (pages_of c q) t ≡ Goes (record { table = fold set_one t (versions_by r); writes = writes_by d r })
  redone_pages r all good listed of =
      redone_all needed c d local t 0 (pages_of c q) t (versions_by r) (pages_rise c q within) (same_all t (pages_of c q)) all good
      ∙ ap (λ ws. let x : RedoPlan = record { table = fold set_one t (versions_by r); writes = ws } in Goes x) (writes_listed c d asked r listed of)

  pub done : (later : LockTable) (r : Option PlannedView) (ds : List Due)
      → AreAll (IsRedone c d) asked (versions_by r) → first_bad d asked ≡ None → listed_by r ≡ asked → IfSome r (λ x. x.config ≡ c)
      → later ≡ (plan_settling me (pages_of c q) (f (fold set_one t (versions_by r)))).table
      → ds ≡ (plan_settling me (pages_of c q) (f (fold set_one t (versions_by r)))).decisions
      → redone_settled ≡ Goes (record { turnover = o; writes = writes_by d r; table = Some later; begins = begins; decisions = ds; told = None })
  done later r ds all good listed of table decisions =
      ap (λ x. and_so x settled) (redone_pages r all good listed of)
      ∙ (λ i. Goes (record { turnover = o; writes = writes_by d r; table = Some (sym table i); begins = begins; decisions = sym decisions i; told = None }))

  pub differs : (b : Bad) → first_bad d asked ≡ Some b → redone_settled ≡ Differs b.page b.expected b.found
  differs b bad =
      ap (λ x. and_so x settled) (bad_one needed c d local t 0 (pages_of c q) t b (pages_rise c q within) (same_all t (pages_of c q)) bad)

-- a redo that can't be planned ends the plan of a partition
pub unplanned : (c : Sizes) (d : Disk) (before : Option LockTable) (ps : List ℕ) (o : Outcome PartitionPlan) (e : StepFault) (r : Result Made StepFault)
    → ((b : Bad) → first_bad d ps ≡ Some b → o ≡ Differs b.page b.expected b.found) → Redoes c d ps (Err e) → IsErrAnd r (λ f. f ≡ e) → Plans o d before r
unplanned c d before ps o e (Ok made) ends redoes is = absurd is
unplanned c d before ps o e (Err f) ends redoes is = subst (λ x. Plans o d before (Err x)) (sym is) (by e redoes)
  where
    by : (x : StepFault) → Redoes c d ps (Err x) → Plans o d before (Err x)
    by NoMemory redoes = tt
    by (Halted call kept) redoes = tt
    by (differing page expected found) redoes = ends (record { page = page; expected = expected; found = found }) redoes
