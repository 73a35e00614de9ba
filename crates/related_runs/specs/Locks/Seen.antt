-- Locks that were used, as the machine of one page has them: between two events, and within a step.
use Rattle.std.specs.Prelude.{◌≡◌, ◌≢◌, ℕ, true, List, [], Some}
use Rattle.pcl_base.specs.declared.event.Event.{Event}
use Rattle.pcl_base.specs.declared.tx.TxId.{TxId}
use Rattle.home_laws.specs.Homes.{IsHome}
use Rattle.node_rules.specs.NodeState.{NodeState}
use Rattle.node_rules.specs.Shelf as shelf
use Rattle.node_rules.specs.Shelf.{right_on}
use Rattle.node_rules.specs.Work.{Work}
use Rattle.cluster_rules.specs.Clusters.{Cluster, node_at}
use Rattle.page_protocol.specs.Authority.{LockUsed}
use Rattle.page_protocol.specs.State.{lock_of, has, Page}
use Rattle.page_relation.specs.Relation.{IsPageOf}
use Rattle.page_relation.specs.Work.Keeping.{IsWorkOf}
use Rattle.page_relation.specs.Work.Landing.{Acts}
use Rattle.related_runs.specs.Locks.Holders.{HoldsNoMore}
use Rattle.related_runs.specs.Locks.Used.{HaveUsedLocks}

-- it is so in a state of the machine that is related to such a cluster
abbrev pub UsedIsSeen : Type 0
UsedIsSeen = (c : Cluster) (p : ℕ) (a : Page) → IsPageOf c p a → HaveUsedLocks c → (t : TxId) → LockUsed (lock_of (a.home t)) (a.script t)

-- A work of a step that begins in such a cluster, where no transaction has come to hold the page since then.
pub record IsEarly (c : Cluster) (e : Event) (n p : ℕ) (s : NodeState) (w : Work) (a : Page) : Type 0 where
  pub acts : Acts c n
  pub up : node_at c n ≡ Some s
  pub used : HaveUsedLocks c
  pub holds : HoldsNoMore p s.home.txs w.node.home.txs
  pub related : IsWorkOf c e n p w a

-- then too, of the transactions of all nodes
abbrev pub WorksAreUsed : Type 0
WorksAreUsed =
    (c : Cluster) (e : Event) (n p : ℕ) (s : NodeState) (w : Work) (a : Page) → IsEarly c e n p s w a → (t : TxId) → LockUsed (lock_of (a.home t)) (a.script t)

-- and each reader under the right that the node has then has accessed the page
abbrev pub ReadersAreUsed : Type 0
ReadersAreUsed =
    (c : Cluster) (e : Event) (n p : ℕ) (s : NodeState) (w : Work) (a : Page) (r : shelf.Right) → IsEarly c e n p s w a → IsHome w.node.home
    → right_on w.node.home.shelf p ≡ Some r → (t : TxId) → has t r.readers ≡ true → a.script t ≢ []
