-- The laws by which a node's step is one of the cluster.
use Rattle.std.specs.Prelude.{◌≡◌, ℕ, [], Option, Some, Result, slice_set}
use Rattle.pcl_base.specs.Limits.{Sizes, InLimits}
use Rattle.pcl_base.specs.declared.event.Event.{Event}
use Rattle.pcl_base.specs.declared.trace.Call.{Call}
use Rattle.pcl_base.specs.declared.tx.TxId.{TxId}
use Rattle.disk_model.specs.Memory.{Disk as Storage, bytes_in}
use Rattle.home.specs.Device.{told_by}
use Rattle.node_rules.specs.NodeState.{NodeState, NodeEvent}
use Rattle.node_rules.specs.NodeStep.{Plan, nodestep}
use Rattle.node_rules.specs.Work.{Outcome, Goes}
use Rattle.node_parts.specs.Outputs.{OutputsView}
use Rattle.node_parts.specs.declared.fault.StepFault.{StepFault}
use Rattle.step_ends.specs.Ran.{Stand, Ran}
use Rattle.trace_entries.specs.Notes.{NotesView, HasMemory}
use Rattle.cluster_rules.specs.Clusters.{Cluster, lose, opening}
use Rattle.cluster_rules.specs.ClusterStep.{step}
use Rattle.cluster_laws.specs.Sound.{IsCluster}
use Rattle.cluster_parts.specs.declared.fault.ClusterFault.{ClusterFault}
use Rattle.cluster_parts.specs.State.{AreParts, ClusterView, ReadsWell, cluster_of, disk_of}
use Rattle.cluster_parts.specs.Ends.{ComesTo}
use Rattle.cluster_parts.specs.Steps.{HaveRoom, IsCarried, IsPrepared, IsReady, IsStepped, IsStopped, StaysBeside, before_taking, noted, stopped}

-- a node, what it gave, and what a storage in memory tells
abbrev pub standing : NodeState → OutputsView → Storage → Stand
standing s out st =
    record {
      node = s;
      replies = out.replies;
      sends = out.sends;
      told = told_by (Some st.pages) (Some (bytes_in st.logs)) (Some st.stops);
    }

-- the cluster once a node and the storage have changed
abbrev pub changed : ClusterView → ℕ → NodeState → Storage → ClusterView
changed v n s st = record v { nodes = slice_set v.nodes n (Some s); storage = st }

-- what a node's step came to, as its storage tells it, is what became of the cluster
abbrev pub StepsAreTold : Type 0
StepsAreTold =
    (v : ClusterView) (n : ℕ) (s t : NodeState) (st : Storage) (before out : OutputsView) (o : Outcome Plan) (r : Result (Unit {0}) StepFault)
    → before.replies ≡ [] → before.sends ≡ [] → Ran n (disk_of v.storage) v.storage.stops o r (standing s before v.storage) (standing t out st)
    → IsStepped n o r v (changed v n t st) out

-- a plan that was carried out, and then sent and noted
abbrev pub MadeStepsAreSteps : Type 0
MadeStepsAreSteps =
    (v w x : ClusterView) (e : Event) (n : ℕ) (ev : NodeEvent) (p : Plan) (r : IsReady v e n ev) (out : OutputsView)
    → nodestep r.state ev (disk_of v.storage) ≡ Goes p → IsCarried n p v w out
    → cluster_of x ≡ noted e n ev out.replies out.sends (cluster_of w) → cluster_of x ≡ step (before_taking n ev (cluster_of v)) e

-- a plan that a stop has ended, and then the node was lost
abbrev pub StoppedStepsAreSteps : Type 0
StoppedStepsAreSteps =
    (v w x : ClusterView) (e : Event) (n : ℕ) (ev : NodeEvent) (p : Plan) (r : IsReady v e n ev) (call : Call) (kept : Option TxId)
    → nodestep r.state ev (disk_of v.storage) ≡ Goes p → IsStopped n p call kept v w
    → cluster_of x ≡ stopped e n call kept (cluster_of w) → cluster_of x ≡ step (before_taking n ev (cluster_of v)) e

-- the cluster without the node of a step
abbrev pub LostNodesLeaveClusters : Type 0
LostNodesLeaveClusters =
    (v w : ClusterView) (e : Event) (n : ℕ) (ev : NodeEvent) → IsReady v e n ev → StaysBeside n v w → IsCluster (lose n (cluster_of w))

-- parts that come to the step of the rules, with the trace's sizes and the failing reads as they were
abbrev pub ComingKeepsParts : Type 0
ComingKeepsParts =
    (v w : ClusterView) (next : Cluster) (e : Event) (r : Result (Unit {0}) ClusterFault) → AreParts v → next ≡ step (cluster_of v) e
    → ComesTo (cluster_of v) next r (cluster_of w) → w.trace.config ≡ v.trace.config → w.storage.failing ≡ v.storage.failing → AreParts w

-- the parts of an opening cluster
abbrev pub OpeningsAreParts : Type 0
OpeningsAreParts =
    (v : ClusterView) (k : Sizes) → InLimits k → cluster_of v ≡ opening k → v.trace.config ≡ k → ReadsWell v.storage → AreParts v

-- room for what a step gives at most suffices for its plan
abbrev pub RoomSuffices : Type 0
RoomSuffices =
    (v : ClusterView) (e : Event) (n : ℕ) (ev : NodeEvent) (notes : NotesView) (p : Plan) (r : IsReady v e n ev)
    → nodestep r.state ev (disk_of v.storage) ≡ Goes p → IsPrepared v n ev notes
    → HaveRoom v.links n p.sends × HasMemory notes p.sends
