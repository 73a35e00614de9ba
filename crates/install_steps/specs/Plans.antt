-- Plans that were made, in the words of the rules, and carrying one out.
use Rattle.std.specs.Prelude.{ℕ}
use Rattle.run_rules.specs.Disk.{Disk}
use Rattle.node_rules.specs.NodeState.{NodeState, table_at}
use Rattle.node_rules.specs.Work.{Work, Outcome}
use Rattle.install_laws.specs.InstallPlans.{PartitionPlan as Planned, carry_plan}
use Rattle.install_plans.specs.declared.plan.PartitionPlan.{PartitionPlan}
use Rattle.install_plans.specs.Plans.{plan_of}

-- a partition and its plan as the rules see them, at a node that has these tables
abbrev pub seen_plan : Disk → NodeState → ℕ × PartitionPlan → ℕ × Planned
seen_plan d n x = (x.0, plan_of d (table_at n x.0) x.1)

-- the plan of a partition is carried out
abbrev pub carry_seen : ℕ × Planned → Work → Outcome Work
carry_seen x w = carry_plan x.0 x.1 w
