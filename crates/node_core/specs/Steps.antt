-- What a node's step needs, and what it comes to.
use Rattle.std.specs.Prelude.{◌≡◌, ◌≢◌, ◌≤◌, ◌<◌, ◌^◌, ◌⊎◌, ℕ, true, List, length, Option, Some, Result, Err, IfErr, ⊤}
use Rattle.pcl_base.specs.Faults.{Rose}
use Rattle.pcl_base.specs.declared.trace.Call.{Call}
use Rattle.pcl_base.specs.declared.trace.Call.TheVariants as call
use Rattle.text_rules.specs.MessageBytes.{IsMessage}
use Rattle.run_rules.specs.Disk.{Disk}
use Rattle.run_rules.specs.Views.{is_live}
use Rattle.disk_model.specs.Causes.{Counts}
use Rattle.disk_model.specs.Disk.{Pages, Logs, Rooms, HasSizes}
use Rattle.disk_model.specs.Stops.{Stops, Failing}
use Rattle.disk_model.specs.declared.stop.Stop.{Stop}
use Rattle.redo_log.specs.Told.{NoneFails}
use Rattle.home.specs.Device.{Told, told_by}
use Rattle.node_rules.specs.NodeState.{NodeState, NodeEvent, Deliver, Install, number_of}
use Rattle.node_rules.specs.NodeStep.{nodestep}
use Rattle.node_parts.specs.Outputs.{OutputsView}
use Rattle.node_parts.specs.declared.fault.StepFault.{StepFault}
use Rattle.node_parts.specs.declared.fault.StepFault.TheVariants.{NoMemory, Halted, Differs}
use Rattle.page_owner.specs.Carry.{HasSame, halted_by}
use Rattle.step_ends.specs.Ran.{Stand, Ran, OthersStayArmed}
use Rattle.node_core.specs.Came.{Came}

-- what an event needs: a message of the grammar from another node, and a view of all nodes in which the
-- node is live
abbrev pub MayCome : NodeState → NodeEvent → Type 0
MayCome n (Deliver from m) = ((from < n.home.config.nodes) × (from ≢ number_of n)) × IsMessage n.home.config m
MayCome n (Install v) = (length v.live ≡ n.home.config.nodes) × (is_live v.live (number_of n) ≡ true)
MayCome n _ = ⊤

-- a node with its replies and sends, over what its storage tells
abbrev pub stand : NodeState → OutputsView → Told → Stand
stand n out told = record { node = n; replies = out.replies; sends = out.sends; told = told }

-- where a page differs the fault names two numbers
abbrev pub IsStepFault : StepFault → Type 0
IsStepFault (Differs page expected found) = expected ≢ found
IsStepFault (Halted call kept) = ⊤
IsStepFault NoMemory = ⊤

-- what a storage tells, its counts of faults among it
pub record Seen : Type 0 where
  pub told : Told
  pub failing : Failing
  pub rooms : Rooms
  pub faults : Counts

abbrev pub seen_by : Pages → Logs → Stops → Failing → Rooms → Counts → Seen
seen_by pages logs stops failing rooms faults =
    record { told = told_by pages logs stops; failing = failing; rooms = rooms; faults = faults }

-- what a step of a node on an event comes to, from its storage and its outputs before it
pub record IsStep (n : NodeState) (event : NodeEvent) (out : OutputsView) (old : Seen) (result : Result (Unit {0}) StepFault) (later : NodeState) (after : OutputsView) (new : Seen) : Type 0 where
  -- it comes to its plan, whatever calls fail
  pub came : (d : Disk) → old.told.pages ≡ Some d.pages → old.told.logs ≡ Some d.logs → Came (number_of n) d (nodestep n event d) result (stand n out old.told) (stand later after new.told)
  -- where no reading call fails, the armed stop decides
  pub ran : (d : Disk) (stops : List (Option Stop)) (l : List (Option ℕ)) → old.told.pages ≡ Some d.pages → old.told.logs ≡ Some d.logs → old.told.stops ≡ Some stops → NoneFails old.failing (number_of n) l → Ran (number_of n) d stops (nodestep n event d) result (stand n out old.told) (stand later after new.told)
  -- want of memory leaves all as before
  pub memory : result ≡ Err NoMemory → (later ≡ n) × HasSame out after × (new.told ≡ old.told)
  pub config : later.home.config ≡ n.home.config
  pub number : number_of later ≡ number_of n
  pub fault : IfErr result IsStepFault
  pub sizes : HasSizes n.home.config new.told.pages new.told.logs new.rooms
  pub others : (d : Disk) → old.told.pages ≡ Some d.pages → old.told.logs ≡ Some d.logs → OthersStayArmed (number_of n) old.told.stops new.told.stops
  -- where no reading is to fail none fails, and none is to fail then
  pub calm : (l : List (Option ℕ)) → NoneFails old.failing (number_of n) l → NoneFails new.failing (number_of n) l
  pub quiet : (l : List (Option ℕ)) → NoneFails old.failing (number_of n) l → (halted_by result ≢ Some call.Read) × (halted_by result ≢ Some call.Log)
  -- no count of faults falls, and a call that failed raised that of its kind
  pub counts : (k : Call) → old.faults k ≤ new.faults k
  pub cause : (k : Call) → halted_by result ≡ Some k → Rose (old.faults k) (new.faults k)

-- outputs have more replies or more sends than a bound
abbrev pub IsMore : ℕ → OutputsView → Type 0
IsMore bound out =
    ((bound < length out.replies) × (length out.replies < 2 ^ 64)) ⊎ ((bound < length out.sends) × (length out.sends < 2 ^ 64))
