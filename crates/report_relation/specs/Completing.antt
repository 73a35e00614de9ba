-- A table that is complete: no report is missing.
use Rattle.std.specs.Prelude.{◌≡◌, ◌≢◌, ℕ, ◌≤◌, ◌<◌, true, false, Some, None}
use Rattle.pcl_base.specs.declared.event.Event.{Event}
use Rattle.run_rules.specs.Views.{View, owner_of, since_of}
use Rattle.node_rules.specs.LockTable.{LockTable, marked}
use Rattle.node_rules.specs.NodeState.{NodeState, partition, table_at}
use Rattle.node_rules.specs.Reports.{missing}
use Rattle.node_rules.specs.Work.{Work}
use Rattle.cluster_rules.specs.Clusters.{Cluster, node_at, view_of_epoch, last_view}
use Rattle.cluster_laws.specs.Era.Eras.{era_at}
use Rattle.page_protocol.specs.Eras.{IsComplete}
use Rattle.page_protocol.specs.State.{Page}
use Rattle.page_relation.specs.Looks.{shelf_in}
use Rattle.page_relation.specs.Work.Keeping.{IsWorkOf}
use Rattle.page_relation.specs.Work.Landing.{Acts}

-- In the view of some epoch no report to the owner n of a partition is missing in its table.
pub record HasAll (c : Cluster) (n q epoch : ℕ) (v : View) (t : LockTable) : Type 0 where
  pub there : view_of_epoch c.views epoch ≡ Some v
  pub low : 1 ≤ epoch
  pub made : epoch ≤ (last_view c).epoch
  pub owner : n ≡ owner_of v q
  pub none_missing : missing t v q ≡ false

-- Then each other node that is up and in a view has reached the era, where those have whose report the table marks.
abbrev pub OthersHaveReached : Type 0
OthersHaveReached =
    (c : Cluster) (n q epoch : ℕ) (v : View) (t : LockTable) (m : ℕ) (s : NodeState) (u : View) → Acts c n → q < c.config.nodes → HasAll c n q epoch v t → m ≢ n
    → node_at c m ≡ Some s → s.view ≡ Some u → (marked t m ≡ true → since_of v q ≤ since_of u q) → since_of v q ≤ since_of u q

-- The same of a node that is up, in a view or in none: its epoch has reached the era.
abbrev pub UpHaveReached : Type 0
UpHaveReached =
    (c : Cluster) (n q epoch : ℕ) (v : View) (t : LockTable) (m : ℕ) (s : NodeState) → Acts c n → q < c.config.nodes → HasAll c n q epoch v t → m ≢ n
    → node_at c m ≡ Some s → (marked t m ≡ true → since_of v q ≤ era_at c q s.epoch) → since_of v q ≤ era_at c q s.epoch

-- what is known of the work of the owner of a table without a missing report
pub record IsReady (c : Cluster) (n q : ℕ) (w : Work) (v : View) (t : LockTable) : Type 0 where
  pub all : HasAll c n q w.node.epoch v t
  pub in_view : w.node.view ≡ Some v
  pub there : table_at w.node q ≡ Some t
  pub rebuilt : t.serving ≡ false

-- So nobody serves, and the machine's era is complete.
pub record MayComplete (a : Page) (e : ℕ) : Type 0 where
  pub nobody : a.served ≡ false
  pub later : a.era < e
  pub complete : IsComplete a e

-- a node in no view has no right of the page
abbrev pub NewHaveNoRight : Cluster → ℕ → Type 0
NewHaveNoRight c p = (m : ℕ) (s : NodeState) → node_at c m ≡ Some s → s.view ≡ None → shelf_in (Some s) p ≡ None

abbrev pub ReadyMayComplete : Type 0
ReadyMayComplete =
    (c : Cluster) (e : Event) (n p : ℕ) (w : Work) (v : View) (t : LockTable) (a : Page) → Acts c n → partition c.config p < c.config.nodes → IsReady c n (partition c.config p) w v t
    → NewHaveNoRight c p → IsWorkOf c e n p w a → MayComplete a (since_of v (partition c.config p))
