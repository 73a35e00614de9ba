-- What the calls of a step do to the logs.
use Rattle.std.specs.Prelude.{◌≡◌, ◌≢◌, ℕ, ◌<◌, List, length, Option, Some, None, IfSome, ⊤}
use Rattle.std.specs.List.{AllByRecursion, fold}
use Rattle.pcl_base.specs.Limits.{Sizes}
use Rattle.pcl_base.specs.declared.event.Event.{Event}
use Rattle.pcl_base.specs.declared.tx.TxId.{TxId}
use Rattle.run_rules.specs.Disk.{Disk, log_at}
use Rattle.node_rules.specs.DiskCalls.{DiskCall, Stop, Left, all_done, left_by}
use Rattle.node_rules.specs.EndRule.{commit_record}
use Rattle.node_rules.specs.NodeState.{NodeState, NodeEvent, Commit}
use Rattle.node_rules.specs.Work.{Goes}
use Rattle.node_rules.specs.NodeStep.{Plan, nodestep}
use Rattle.redo_laws.specs.Words.{IsWhole, HasNumbers}
use Rattle.cluster_rules.specs.Clusters.{Cluster, opening, node_at}
use Rattle.cluster_rules.specs.ClusterStep.{step}
use Rattle.cluster_laws.specs.Handed.{IsHanded}
use Rattle.cluster_laws.specs.Sound.{IsCluster}
use Rattle.cluster_laws.specs.Call.Calls.{IsWrite, log_calls, log_by, BeginsWith}

-- The calls of a step are the one on the node's log, if there is one, and then page writes.
abbrev pub StepsBeginWithLogs : Type 0
StepsBeginWithLogs =
    (n : NodeState) (event : NodeEvent) (d : Disk) (p : Plan) → nodestep n event d ≡ Goes p
    → BeginsWith (log_calls n d event) p.calls

-- page writes leave all logs
abbrev pub WritesKeepLogs : Type 0
WritesKeepLogs = (n : ℕ) (d : Disk) (calls : List DiskCall) → AllByRecursion IsWrite calls → (all_done n d calls).logs ≡ d.logs

-- and any calls of a node leave the logs of others
abbrev pub CallsKeepOtherLogs : Type 0
CallsKeepOtherLogs =
    (n m : ℕ) (d : Disk) (calls : List DiskCall) → m ≢ n → log_at (all_done n d calls) m ≡ log_at d m

-- Its own log changes by each of them.
abbrev pub CallsChangeLog : Type 0
CallsChangeLog =
    (n : ℕ) (d : Disk) (calls : List DiskCall) → n < length d.logs → log_at (all_done n d calls) n ≡ fold log_by (log_at d n) calls

-- a stop in a step leaves the logs of others too
abbrev pub StopsKeepOtherLogs : Type 0
StopsKeepOtherLogs =
    (n m : ℕ) (d : Disk) (calls : List DiskCall) (s : Stop) (l : Left) → m ≢ n → left_by n d calls s ≡ Some l → log_at l.disk m ≡ log_at d m

-- the log of a node in a view is whole records
abbrev pub HasWholeLog : Cluster → ℕ → Option NodeState → Type 0
HasWholeLog c n None = ⊤
HasWholeLog c n (Some s) = IfSome s.view (λ v. IsWhole c.config (log_at c.disk n))

-- the same at all nodes
abbrev pub HaveWholeLogs : Cluster → Type 0
HaveWholeLogs c = (n : ℕ) → HasWholeLog c n (node_at c n)

-- the opening cluster
abbrev pub OpeningHasWholeLogs : Type 0
OpeningHasWholeLogs = (c : Sizes) → HaveWholeLogs (opening c)

-- the record of a commit that comes to a node has numbers of their types
abbrev pub CommitsHaveNumbers : Cluster → Event → Type 0
CommitsHaveNumbers c e =
    (n : ℕ) (s : NodeState) (t : TxId) → IsHanded c e n s (Commit t) → HasNumbers (commit_record s.home t)

-- a step on any event
abbrev pub StepsKeepWholeLogs : Type 0
StepsKeepWholeLogs =
    (c : Cluster) (e : Event) → IsCluster c → HaveWholeLogs c → CommitsHaveNumbers c e → HaveWholeLogs (step c e)
