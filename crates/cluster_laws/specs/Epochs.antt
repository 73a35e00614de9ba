-- What a step of a node makes of its epoch and its view.
use Rattle.std.specs.Prelude.{◌≡◌, ◌⊎◌, true, Some}
use Rattle.run_rules.specs.Disk.{Disk}
use Rattle.run_rules.specs.Views.{View}
use Rattle.node_rules.specs.NodeState.{NodeState, NodeEvent, Install}
use Rattle.node_rules.specs.Refusals.{may_install}
use Rattle.node_rules.specs.Work.{Goes}
use Rattle.node_rules.specs.NodeStep.{Plan, nodestep}

-- the node has the epoch and the view that it had
pub record StaysInView (n m : NodeState) : Type 0 where
  pub epoch : m.epoch ≡ n.epoch
  pub view : m.view ≡ n.view

-- the node has installed the view of the event, which it wasn't refused
pub record HasInstalled (n : NodeState) (event : NodeEvent) (m : NodeState) : Type 0 where
  pub next : View
  pub asked : event ≡ Install next
  pub allowed : may_install n n.view next ≡ true
  pub epoch : m.epoch ≡ next.epoch
  pub view : m.view ≡ Some next

-- a step keeps the view, or installs the one of its event
abbrev pub StepsKeepViews : Type 0
StepsKeepViews =
    (n : NodeState) (event : NodeEvent) (d : Disk) (p : Plan) → nodestep n event d ≡ Goes p
    → StaysInView n p.node ⊎ HasInstalled n event p.node
