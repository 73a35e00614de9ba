-- What holds of a cluster between two events, as its nodes and its trace have it.
use Rattle.std.specs.Prelude.{◌≡◌, ℕ, ◌<◌, ◌≤◌, true, List, Option, Some, None, IfSome}
use Rattle.pcl_base.specs.Limits.{Sizes}
use Rattle.pcl_base.specs.declared.event.Event.{Event}
use Rattle.pcl_base.specs.declared.trace.Entry.{Entry}
use Rattle.pcl_base.specs.declared.tx.TxId.{TxId}
use Rattle.home_laws.specs.Homes.{is_exclusive_lock}
use Rattle.node_rules.specs.LockTable.{LockTable, entry_at}
use Rattle.node_rules.specs.NodeState.{NodeState, table_at, partition}
use Rattle.node_rules.specs.OpenTxs.{held_by}
use Rattle.cluster_rules.specs.Clusters.{Cluster, opening, node_at}
use Rattle.cluster_rules.specs.ClusterStep.{step}
use Rattle.cluster_laws.specs.Sound.{IsCluster}
use Rattle.page_protocol.specs.Bytes.{Copy, writes}
use Rattle.page_protocol.specs.State.{Page}
use Rattle.page_protocol.specs.Steps.{Reached}
use Rattle.page_laws.specs.Moment.Looks.{accesses_in}
use Rattle.page_relation.specs.Looks.{slot_in, dirty_in}
use Rattle.page_relation.specs.Relation.{IsPageOf}
use Rattle.page_relation.specs.Work.Events.{IsEntered}
use Rattle.related_runs.specs.Parts.{HaveAsked}
use Rattle.related_runs.specs.RunLaws.{HaveWritten, IsOfRun}

-- each page that a transaction of a node holds exclusively it has written
abbrev pub NodeWrites : List Entry → NodeState → Type 0
NodeWrites trace s = (t : TxId) (p : ℕ) → is_exclusive_lock (held_by s.home.txs t p) ≡ true → writes (accesses_in t p trace) ≡ true

-- the same at each node that is up
abbrev pub HaveWrites : Cluster → Type 0
HaveWrites c = (n : ℕ) → IfSome (node_at c n) (NodeWrites c.trace)

-- the opening cluster
abbrev pub OpeningHasWrites : Type 0
OpeningHasWrites = (c : Sizes) → HaveWrites (opening c)

-- a step on any event
abbrev pub StepsHaveWrites : Type 0
StepsHaveWrites = (c : Cluster) (e : Event) → IsCluster c → HaveAsked c → HaveWrites c → HaveWrites (step c e)

-- it is what the machine of one page is asked for
abbrev pub WritesAreWrote : Type 0
WritesAreWrote = (c : Cluster) (p : ℕ) (a : Page) → IsPageOf c p a → HaveWrites c → HaveWritten a

-- and every cluster of a run has it
abbrev pub RunsHaveWrites : Type 0
RunsHaveWrites = (blank : List ℕ) (c : Cluster) → IsOfRun blank c → HaveWrites c

-- the table of a partition at a node, where it is up
abbrev pub table_in : Option NodeState → ℕ → Option LockTable
table_in None q = None
table_in (Some s) q = table_at s q

-- where a node serves partition q, its dirty copy of page p isn't newer than the entry
abbrev pub EnteredIn : ℕ → ℕ → Option NodeState → Type 0
EnteredIn q p o =
    (t : LockTable) (x : Copy) → table_in o q ≡ Some t → t.serving ≡ true → dirty_in o p ≡ true → slot_in o p ≡ Some x
    → x.version ≤ (entry_at t p).version

-- the same of each page, at each node
abbrev pub HaveEntered : Cluster → Type 0
HaveEntered c = (n p : ℕ) → p < c.config.pages → EnteredIn (partition c.config p) p (node_at c n)

-- a state whose dirty copy isn't newer than its entry is so at each node
abbrev pub EnteredIsSeen : Type 0
EnteredIsSeen = (c : Cluster) (p n : ℕ) (a : Page) → IsPageOf c p a → IsEntered a → EnteredIn (partition c.config p) p (node_at c n)

-- and the other way round
abbrev pub SeenIsEntered : Type 0
SeenIsEntered =
    (blank : List ℕ) (c : Cluster) (p : ℕ) (a : Page) → Reached blank a → IsPageOf c p a
    → ((n : ℕ) → EnteredIn (partition c.config p) p (node_at c n)) → IsEntered a
