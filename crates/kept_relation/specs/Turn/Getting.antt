-- The new table of a partition that a node gets.
use Rattle.std.specs.Prelude.{◌≡◌, ℕ, ◌≤◌, ◌<◌, true, false, Some}
use Rattle.pcl_base.specs.declared.event.Event.{Event}
use Rattle.pcl_base.specs.declared.lock.Pending.{Pending}
use Rattle.pcl_base.specs.declared.tx.TxId.{TxId}
use Rattle.node_rules.specs.BufferRule.{find}
use Rattle.node_rules.specs.InstallRule.{new_table, owned_before}
use Rattle.node_rules.specs.LockTable.{entry_at}
use Rattle.node_rules.specs.NodeState.{HomeState, partition, number_of}
use Rattle.node_rules.specs.OpenTxs.{held_by, pending_of}
use Rattle.node_rules.specs.Shelf.{Right, right_on}
use Rattle.node_rules.specs.Work.{Work}
use Rattle.cluster_rules.specs.Clusters.{Cluster}
use Rattle.home_laws.specs.Homes.{IsHome}
use Rattle.page_protocol.specs.Authority.{HaveUsed, spending}
use Rattle.page_protocol.specs.Eras.{reporting}
use Rattle.page_protocol.specs.State.{Page}
use Rattle.page_protocol.specs.Steps.{Step}
use Rattle.page_relation.specs.Messages.{HasAsked, CountsFor}
use Rattle.page_relation.specs.Tables.{IsRebuilt}
use Rattle.page_relation.specs.Work.Keeping.{IsWorkOf}
use Rattle.page_relation.specs.Work.Landing.{Acts}
use Rattle.page_relation.specs.Work.Spending.{spent}
use Rattle.kept_relation.specs.Turn.Listing.{listed_mode}

-- A node has reached an era and reported to it, as far as its home goes; no right of it counts there.
pub record HasReported (p n next : ℕ) (h : HomeState) (b : Page) : Type 0 where
  pub later : b.era < next
  pub reached : next ≤ b.reached n
  pub locks : (t : TxId) → t.node ≡ n → listed_mode true (held_by h.txs t p) ≡ b.listed t next
  pub rights : CountsFor next (b.right n) → ⊥
  pub waits : (t : TxId) (w : Pending) → t.node ≡ n → pending_of h.txs t ≡ Some w → w.page ≡ p → HasAsked (b.reached t.node) next (b.home t) (find h.pool w.page)

-- The table that its own report makes is one of that era that is being rebuilt, with the node's own mark.
abbrev pub NewTableIsRebuilt : Type 0
NewTableIsRebuilt =
    (p n next : ℕ) (h : HomeState) (b : Page) → IsHome h → h.txs.node ≡ n → n < h.config.nodes → HasReported p n next h b
    → IsRebuilt b.era b.listed b.right b.reached b.home next (new_table (partition h.config p) n h) (entry_at (new_table (partition h.config p) n h) p)

-- A node that has the right of the page, which isn't its own in its view, and gets the partition with a later era; each
-- lock of the page there was used.
pub record MayTurn (c : Cluster) (n p upto : ℕ) (w : Work) (a : Page) (r : Right) : Type 0 where
  pub home : IsHome w.node.home
  pub right : right_on w.node.home.shelf p ≡ Some r
  pub not_own : owned_before w.node.view (partition w.node.home.config p) (number_of w.node) ≡ false
  pub not_past : a.era ≤ a.reached n
  pub before : a.reached n < upto
  pub used : HaveUsed a n

-- the machine's turn, by which the node reports too; and the relation with the state before that report, where the
-- readers' locks are registered
pub record IsTurned (c : Cluster) (e : Event) (n p upto : ℕ) (w : Work) (a : Page) (r : Right) : Type 0 where
  pub step : Step a (reporting (spending a n upto r.readers) n upto)
  pub related : IsWorkOf c e n p (spent p w) (spending a n upto r.readers)

abbrev pub TurningIsStep : Type 0
TurningIsStep =
    (c : Cluster) (e : Event) (n p upto : ℕ) (w : Work) (a : Page) (r : Right) → Acts c n → MayTurn c n p upto w a r → IsWorkOf c e n p w a → IsTurned c e n p upto w a r
