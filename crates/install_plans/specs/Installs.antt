-- What the plan of an install is in the laws of planned installs.
use Rattle.std.specs.Prelude.{ℕ, map, Some, Result, Ok, Err, Vec}
use Rattle.std.specs.Global.{Global}
use Rattle.std.specs.List.{AllByRecursion}
use Rattle.pcl_base.specs.Limits.{Sizes}
use Rattle.run_rules.specs.Disk.{Disk}
use Rattle.node_rules.specs.NodeState.{NodeState, table_at}
use Rattle.disk_model.specs.Disk.{Pages, Logs}
use Rattle.install_laws.specs.InstallPlans.{InstallPlan as Planned}
use Rattle.node_parts.specs.declared.fault.StepFault.{StepFault}
use Rattle.node_parts.specs.declared.fault.StepFault.TheVariants.{NoMemory, Halted, Differs}
use Rattle.install_plans.specs.declared.plan.PartitionPlan.{PartitionPlan}
use Rattle.install_plans.specs.declared.plan.InstallPlan.{InstallPlan}
use Rattle.install_plans.specs.Plans.{Fits, plan_of}

-- the plan of the rules, at a node that has these tables
abbrev pub install_of : Disk → NodeState → InstallPlan → Planned
install_of d n p = record { plans = map (λ x. (x.0, plan_of d (table_at n x.0) x.1)) p.plans.items; differs = p.differs }

-- each plan can be carried out by a node while pages and logs are these
abbrev pub FitsEach : Sizes → ℕ → Pages → Logs → InstallPlan → Type 0
FitsEach c me pages logs p = AllByRecursion (λ x. Fits c me x.0 pages logs x.1) p.plans.items

-- how the planning ends at a partition that can't be planned
abbrev pub ended_by : Vec (ℕ × PartitionPlan) Global → StepFault → Result InstallPlan StepFault
ended_by plans NoMemory = Err NoMemory
ended_by plans (Halted call kept) = Err (Halted call kept)
ended_by plans (Differs page expected found) =
    Ok (record { plans = plans; differs = Some (record { page = page; expected = expected; found = found }) })
