-- The laws of plans that are carried out later.
use Rattle.std.specs.Prelude.{◌≡◌, ℕ, ◌<◌, Option}
use Rattle.pcl_base.specs.Limits.{Sizes}
use Rattle.pcl_base.specs.declared.message.Report.{Report}
use Rattle.run_rules.specs.Disk.{Disk}
use Rattle.run_rules.specs.Views.{View}
use Rattle.node_rules.specs.LockTable.{LockTable}
use Rattle.node_rules.specs.NodeState.{NodeState}
use Rattle.node_rules.specs.Work.{Goes}
use Rattle.disk_model.specs.Disk.{Pages, Logs}
use Rattle.install_laws.specs.InstallPlans.{plan_partition, plan_report}
use Rattle.install_plans.specs.declared.plan.PartitionPlan.{PartitionPlan}
use Rattle.install_plans.specs.Plans.{Fits, plan_of, writes_by}
use Rattle.partition_steps.specs.Carried.{AreRising, CanCarry}
use Rattle.partition_steps.specs.Stays.{IsSameFor, StaysFor}

-- a plan can be carried out as long as pages and logs are the same for it
abbrev pub PlansStay : Type 0
PlansStay =
    (c : Sizes) (me q : ℕ) (pages : Pages) (logs : Logs) (later : Pages) (more : Logs) (p : PartitionPlan)
    → StaysFor c q pages logs later more → CanCarry c me q pages logs p → CanCarry c me q later more p

-- and it is the same plan of the rules
abbrev pub PlansAreSame : Type 0
PlansAreSame =
    (c : Sizes) (me q : ℕ) (pages : Pages) (logs : Logs) (p : PartitionPlan) (d e : Disk) (t : Option LockTable)
    → IsSameFor c q d e → Fits c me q pages logs p → plan_of e t p ≡ plan_of d t p

-- pages and logs are the same twice
abbrev pub StaysTwice : Type 0
StaysTwice =
    (c : Sizes) (q : ℕ) (pages : Pages) (logs : Logs) (later : Pages) (more : Logs) (last : Pages) (most : Logs)
    → StaysFor c q pages logs later more → StaysFor c q later more last most → StaysFor c q pages logs last most

-- the writes of a plan of the rules rise
abbrev pub PlannedRise : Type 0
PlannedRise =
    (d : Disk) (before : Option View) (v : View) (q : ℕ) (n : NodeState) (t : Option LockTable) (p : PartitionPlan) → q < n.home.config.nodes
    → plan_partition d d.pages before v q n ≡ Goes (plan_of d t p) → AreRising 0 (writes_by d p.redo)

-- so do those of the plan for a report
abbrev pub ReportedRise : Type 0
ReportedRise =
    (d : Disk) (from : ℕ) (r : Report) (n : NodeState) (t : Option LockTable) (p : PartitionPlan) → r.partition < n.home.config.nodes
    → plan_report d d.pages from r n ≡ Goes (plan_of d t p) → AreRising 0 (writes_by d p.redo)
