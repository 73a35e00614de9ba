-- Stops of two nodes and a plan that changes nothing, for computed rows.
use Rattle.std.specs.Prelude.{ℕ, List, [], ◌∷◌, Option, Some, None, Result, Ok}
use Rattle.pcl_base.specs.declared.trace.Call.TheVariants.{Write}
use Rattle.disk_model.specs.declared.stop.Stop.{Stop}
use Rattle.run_rules.specs.Disk.{fresh_disk}
use Rattle.node_rules.specs.DiskCalls.{Left}
use Rattle.node_rules.specs.NodeState.{first_node}
use Rattle.node_rules.specs.NodeStep.{Plan}
use Rattle.node_rules.specs.StepRows.{two}
use Rattle.home.specs.CallLaws.{told_on}
use Rattle.node_parts.specs.declared.fault.StepFault.{StepFault}
use Rattle.step_ends.specs.Ran.{Stand}

-- an armed stop, and the stops of two nodes of which the first is armed
abbrev pub stop : ℕ → Stop
stop call = record { call = call; kept = 5 }

abbrev pub first_armed : ℕ → List (Option Stop)
first_armed call = Some (stop call) ∷ None ∷ []

-- node 0 over fresh storage, with these stops
abbrev pub standing : List (Option Stop) → Stand
standing stops = record { node = first_node two 0; replies = []; sends = []; told = told_on (fresh_disk two) (Some stops) }

-- a plan without calls, and what a stop leaves of one
abbrev pub idle_plan : Plan
idle_plan = record { node = first_node two 0; replies = []; sends = []; calls = [] }

abbrev pub stopped_write : Left
stopped_write = record { disk = fresh_disk two; call = Write; kept = None }

-- an answer that is well
abbrev pub well : Result ℕ StepFault
well = Ok 0
