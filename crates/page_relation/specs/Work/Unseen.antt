-- What of a work is seen of one page, part by part, and that it stays.
use Rattle.std.specs.Prelude.{◌≡◌, ℕ, Bool, List, Option, Some, None, ⊤}
use Rattle.std.specs.List.{filter}
use Rattle.pcl_base.specs.Limits.{Sizes}
use Rattle.pcl_base.specs.declared.event.Event.{Event}
use Rattle.pcl_base.specs.declared.message.Message.{Message}
use Rattle.pcl_base.specs.declared.trace.Entry.{Entry}
use Rattle.pcl_base.specs.declared.tx.TxId.{TxId}
use Rattle.run_rules.specs.Disk.{Disk}
use Rattle.run_rules.specs.Now.{now}
use Rattle.node_rules.specs.BufferRule.{copy_at, private_bytes}
use Rattle.node_rules.specs.LockTable.{LockTable, entry_at, marked}
use Rattle.node_rules.specs.NodeState.{HomeState, NodeState, Outgoing, number_of, partition, runs_at, table_at}
use Rattle.node_rules.specs.OpenTxs.{held_by, pending_of}
use Rattle.node_rules.specs.Shelf.{right_on}
use Rattle.node_rules.specs.Work.{Work}
use Rattle.cluster_rules.specs.Clusters.{Cluster}
use Rattle.cluster_rules.specs.ClusterStep.{is_taken}
use Rattle.page_protocol.specs.Bytes.{Copy, Ranges}
use Rattle.cluster_laws.specs.Link.Coming.{speaks_of, sent_to}
use Rattle.page_laws.specs.Look.Ends.{version_of_right}
use Rattle.page_laws.specs.Look.Parts.{SameLife}
use Rattle.page_laws.specs.Moment.Looks.{accesses_in}
use Rattle.page_laws.specs.Storage.Looks.{IsStored}
use Rattle.page_relation.specs.Homes.{wait_on}
use Rattle.page_relation.specs.Work.Landing.{trace_of, disk_of}

-- the standing of a node: its sizes and number, its epoch and view
pub record SameStanding (s x : NodeState) : Type 0 where
  pub config : x.home.config ≡ s.home.config
  pub number : number_of x ≡ number_of s
  pub epoch : x.epoch ≡ s.epoch
  pub view : x.view ≡ s.view

-- what each transaction has of page p
pub record SameUse (p : ℕ) (h g : HomeState) : Type 0 where
  pub held : (t : TxId) → held_by g.txs t p ≡ held_by h.txs t p
  pub waits : (t : TxId) → wait_on (pending_of g.txs t) p ≡ wait_on (pending_of h.txs t) p
  pub bytes : (t : TxId) → private_bytes g.pool t p ≡ private_bytes h.pool t p
  pub runs : (t : TxId) → runs_at g.written t p ≡ runs_at h.written t p

-- the copy of the page
abbrev pub SameCopy : ℕ → HomeState → HomeState → Type 0
SameCopy p h g = copy_at g.pool p ≡ copy_at h.pool p

-- the version of the right on the shelf
abbrev pub SameRight : ℕ → HomeState → HomeState → Type 0
SameRight p h g = version_of_right (right_on g.shelf p) ≡ version_of_right (right_on h.shelf p)

-- what a table has of the page: whether it serves, the entry, and whose reports have come
pub record SameEntry (p : ℕ) (t u : LockTable) : Type 0 where
  pub serving : u.serving ≡ t.serving
  pub entry : entry_at u p ≡ entry_at t p
  pub marks : (m : ℕ) → marked u m ≡ marked t m

-- the same of tables that may be missing
abbrev pub SameTable : ℕ → Option LockTable → Option LockTable → Type 0
SameTable p None None = ⊤
SameTable p None (Some u) = ⊥
SameTable p (Some t) None = ⊥
SameTable p (Some t) (Some u) = SameEntry p t u

-- what is stored of the page
abbrev pub SameStored : Sizes → ℕ → Disk → Disk → Type 0
SameStored c p d f = (disk : Copy) (log : ℕ → ℕ → Option Ranges) → IsStored c d p disk log → IsStored c f p disk log

-- what the trace tells of the page: what was granted, and what commits have made
pub record SameTold (c : Sizes) (p : ℕ) (before after : List Entry) : Type 0 where
  pub accesses : (t : TxId) → accesses_in t p after ≡ accesses_in t p before
  pub now_same : now c after ≡ now c before

-- whether a message speaks of the page
abbrev pub speaks : Sizes → ℕ → Message → Bool
speaks c p m = speaks_of c p m.body

-- the messages to each node that speak of the page
abbrev pub SameSends : Sizes → ℕ → List Outgoing → List Outgoing → Type 0
SameSends c p before after = (b : ℕ) → filter (speaks c p) (sent_to b after) ≡ filter (speaks c p) (sent_to b before)

-- what a home has of the page
pub record SamePage (p : ℕ) (h g : HomeState) : Type 0 where
  pub uses : SameUse p h g
  pub copy : SameCopy p h g
  pub right : SameRight p h g

-- nothing that is seen of page p changes from a work to a later one of the same step
pub record IsUnseen (c : Cluster) (e : Event) (n p : ℕ) (w x : Work) : Type 0 where
  pub standing : SameStanding w.node x.node
  pub life : SameLife w.node.home x.node.home
  pub page : SamePage p w.node.home x.node.home
  pub table : SameTable p (table_at w.node (partition c.config p)) (table_at x.node (partition c.config p))
  pub stored : SameStored c.config p (disk_of c n w) (disk_of c n x)
  pub told : SameTold c.config p (trace_of c e n w) (trace_of c e n x)
  pub taken : is_taken x.replies ≡ is_taken w.replies
  pub sends : SameSends c.config p w.sends x.sends
