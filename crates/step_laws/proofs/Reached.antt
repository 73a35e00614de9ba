-- A step that gives as much as a step can.
use Rattle.std.proofs.Common.{true, false, [], ◌∷◌, refl}
use Rattle.run_rules.specs.Disk.{fresh_disk}
use Rattle.run_rules.specs.Views.{View}
use Rattle.node_rules.specs.NodeState.{Install, start_node}
use Rattle.node_rules.specs.StepRows.{two}
use Rattle.node_rules.specs.NodeStep.{Plan, nodestep}
use Rattle.node_rules.proofs.Opened.{node_rules}
use Rattle.step_laws.specs.Most.{TogetherIsReached}
use Rattle.step_laws.proofs.Outcomes.{value_or}

-- a view in which a node owns both partitions
abbrev alone : View
alone = record { epoch = 1; live = true ∷ false ∷ []; owners = 0 ∷ 0 ∷ []; since = 1 ∷ 1 ∷ []; born = 1 ∷ 1 ∷ [] }

abbrev given_plan : Plan
given_plan = value_or (record { node = start_node two 0 0; replies = []; sends = []; calls = [] }) (nodestep (start_node two 0 0) (Install alone) (fresh_disk two))

pub together_is_reached_law : TogetherIsReached
unfolding node_rules
together_is_reached_law = (start_node two 0 0, Install alone, fresh_disk two, given_plan, refl, refl, refl)
