-- The laws of nodes in a run.
use Rattle.std.specs.Prelude.{◌≡◌, ℕ, ◌^◌, ◌<◌, ◌≤◌, true, List}
use Rattle.std.specs.List.{AllByRecursion}
use Rattle.pcl_base.specs.Limits.{Sizes, InLimits}
use Rattle.pcl_base.specs.declared.tx.TxId.{TxId}
use Rattle.text_rules.specs.MessageBytes.{IsTx}
use Rattle.run_rules.specs.Disk.{Disk, fresh_disk}
use Rattle.node_rules.specs.NodeState.{NodeState, NodeEvent, first_node, start_node, number_of}
use Rattle.node_rules.specs.OpenTxs.{is_open}
use Rattle.node_rules.specs.DiskCalls.{DiskCall, Stop, all_done, disk_left}
use Rattle.node_rules.specs.Work.{Goes}
use Rattle.node_rules.specs.NodeStep.{Plan, nodestep}
use Rattle.step_laws.specs.Most.{HasFewReaders}
use Rattle.node_laws.specs.Nodes.{IsSound, CanCome, DiskFits, IsSend, IsCall}

-- a node at view 1
abbrev pub FirstIsSound : Type 0
FirstIsSound = (c : Sizes) (me : ℕ) → InLimits c → me < c.nodes → IsSound (first_node c me)

-- a node in no view
abbrev pub StartIsSound : Type 0
StartIsSound = (c : Sizes) (me epoch : ℕ) → InLimits c → me < c.nodes → 1 ≤ epoch → epoch < 2 ^ 32 → IsSound (start_node c me epoch)

-- a step of a sound node on an event that can come, over a disk of its cluster
pub record IsStep (n : NodeState) (event : NodeEvent) (d : Disk) (p : Plan) : Type 0 where
  pub sound : IsSound n
  pub can : CanCome n event
  pub fits : DiskFits n.home.config d
  pub goes : nodestep n event d ≡ Goes p

-- it leaves a sound node
abbrev pub StepsKeepSound : Type 0
StepsKeepSound = (n : NodeState) (event : NodeEvent) (d : Disk) (p : Plan) → IsStep n event d p → IsSound p.node

-- of the same numbers
abbrev pub StepsKeepNumbers : Type 0
StepsKeepNumbers =
    (n : NodeState) (event : NodeEvent) (d : Disk) (p : Plan) → IsStep n event d p
    → (p.node.home.config ≡ n.home.config) × (number_of p.node ≡ number_of n)

-- what it sends are messages of the grammar to other nodes
abbrev pub SendsAreMessages : Type 0
SendsAreMessages =
    (n : NodeState) (event : NodeEvent) (d : Disk) (p : Plan) → IsStep n event d p
    → AllByRecursion (IsSend n.home.config (number_of n)) p.sends

-- of the epoch that the node is at after it
abbrev pub SendsHaveEpoch : Type 0
SendsHaveEpoch =
    (n : NodeState) (event : NodeEvent) (d : Disk) (p : Plan) → IsStep n event d p
    → AllByRecursion (λ o. o.message.epoch ≡ p.node.epoch) p.sends

-- what it writes are pages of the database
abbrev pub CallsFit : Type 0
CallsFit =
    (n : NodeState) (event : NodeEvent) (d : Disk) (p : Plan) → IsStep n event d p → AllByRecursion (IsCall n.home.config) p.calls

-- no right of a sound node has more readers than there are locks
abbrev pub SoundHasFewReaders : Type 0
SoundHasFewReaders = (n : NodeState) → IsSound n → HasFewReaders n

-- an open transaction of a sound node has a name that may be
abbrev pub OpenAreTxs : Type 0
OpenAreTxs = (n : NodeState) (t : TxId) → IsSound n → is_open n.home.txs t ≡ true → IsTx n.home.config t

-- fresh storage is a disk of its cluster
abbrev pub FreshFits : Type 0
FreshFits = (c : Sizes) → DiskFits c (fresh_disk c)

-- a disk keeps its pages and logs through such calls
abbrev pub CallsKeepDisk : Type 0
CallsKeepDisk =
    (c : Sizes) (n : ℕ) (d : Disk) (calls : List DiskCall) → DiskFits c d → AllByRecursion (IsCall c) calls → DiskFits c (all_done n d calls)

-- and where a stop breaks off
abbrev pub StopsKeepDisk : Type 0
StopsKeepDisk =
    (c : Sizes) (n : ℕ) (d : Disk) (calls : List DiskCall) (s : Stop) → DiskFits c d → AllByRecursion (IsCall c) calls → DiskFits c (disk_left n d calls s)
