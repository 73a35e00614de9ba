-- A node's birth changes no plan of an install, and reports that are of the grammar can be planned.
use Rattle.std.specs.Prelude.{◌≡◌, ◌==◌, true, []}
use Rattle.pcl_base.specs.Limits.{Sizes}
use Rattle.pcl_base.specs.declared.message.Body.TheVariants as body
use Rattle.pcl_base.specs.declared.message.Report.{Report as Told}
use Rattle.text_rules.specs.MessageBytes.{IsBody}
use Rattle.run_rules.specs.Disk.{Disk}
use Rattle.run_rules.specs.Views.{View, born_of}
use Rattle.node_rules.specs.NodeState.{NodeState, number_of}
use Rattle.node_rules.specs.InstallRule.{in_view}
use Rattle.node_rules.specs.NodeStep.{begin_work}
use Rattle.install_laws.specs.InstallPlans.{plan_install}
use Rattle.install_laws.specs.Laws.{begun}
use Rattle.install_plans.specs.Plans.{NamesOwn}

-- the plans of the state in which an install begins are those of the node that is in the view, where a
-- node that is born in it has no open transaction
abbrev pub BirthsChangeNoPlan : Type 0
BirthsChangeNoPlan =
    (d : Disk) (v : View) (n : NodeState) → ((born_of v (number_of n) == v.epoch) ≡ true → n.home.txs.txs ≡ [])
    → plan_install d d.pages n.view v (begun d v (begin_work n d)).node ≡ plan_install d d.pages n.view v (in_view v n)

-- a report that is of the grammar names pages of its partition alone
abbrev pub ReportsNameTheirOwn : Type 0
ReportsNameTheirOwn = (c : Sizes) (r : Told) → IsBody c (body.Report r) → NamesOwn c r
