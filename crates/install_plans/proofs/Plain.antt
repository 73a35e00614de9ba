-- Plans by which nothing is redone or decided.
use Rattle.std.proofs.Common.{◌≡◌, ℕ, false, Option, None, [], ap, sym, ◌∙◌}
use Rattle.pcl_base.specs.declared.message.Report.{Report}
use Rattle.run_rules.specs.Disk.{Disk}
use Rattle.node_rules.specs.LockTable.{LockTable}
use Rattle.install_laws.specs.InstallPlans.{PartitionPlan}
use Rattle.install_plans.specs.declared.plan.Turnover.{Turnover}
use Rattle.install_plans.specs.declared.plan.TableAfter.{TableAfter}
use Rattle.install_plans.specs.declared.plan.PartitionPlan.{PartitionPlan as Made}
use Rattle.install_plans.specs.Plans.{turnover_of, table_after, plan_of}

-- such a plan, in the words of the rules
abbrev pub plain_plan : Turnover → TableAfter → Option LockTable → Option (ℕ × Report) → PartitionPlan
plain_plan o table before told =
    record { turnover = turnover_of o; writes = []; table = table_after table before; begins = false; decisions = []; told = told }

pub plain_planned : (d : Disk) (before : Option LockTable) (o : Turnover) (table : TableAfter) (told : Option (ℕ × Report)) (p : Made)
    → p ≡ record { turnover = o; redo = None; table = table; begins = false; decisions = p.decisions; report = told } → p.decisions.items ≡ []
    → plain_plan o table before told ≡ plan_of d before p
plain_planned d before o table told p is none =
    (λ i. let x : PartitionPlan = record { turnover = turnover_of o; writes = []; table = table_after table before; begins = false; decisions = sym none i; told = told } in x)
    ∙ ap (plan_of d before) (sym is)
