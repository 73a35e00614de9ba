-- The redo of pages whose table is being rebuilt.
use Rattle.std.specs.Prelude.{◌≡◌, ◌⊎◌, ℕ, ◌<◌, false, List, length, Some}
use Rattle.std.specs.List.{Contains}
use Rattle.pcl_base.specs.declared.event.Event.{Event}
use Rattle.pcl_base.specs.declared.log.Record.{Record}
use Rattle.run_rules.specs.Redo.{all_records}
use Rattle.node_rules.specs.InstallRule.{redo_page, version_of_page}
use Rattle.node_rules.specs.LockTable.{LockTable}
use Rattle.node_rules.specs.NodeState.{partition, table_at}
use Rattle.node_rules.specs.Work.{Work, Goes, Differs, for_each, work_of_home}
use Rattle.cluster_rules.specs.Clusters.{Cluster}
use Rattle.page_protocol.specs.State.{Page, current}
use Rattle.page_protocol.specs.Steps.{Run, Reached}
use Rattle.page_relation.specs.Work.Keeping.{IsWorkOf}
use Rattle.page_relation.specs.Work.Landing.{Acts, disk_of}
use Rattle.page_relation.specs.Work.Letting.{CalledBy}
use Rattle.page_relation.specs.Work.Rest.{SameRest}

-- the records with which redo works: those of all logs at the start of the step
abbrev pub records : Cluster → List Record
records c = all_records c.config c.disk

-- The logs have the records with which the step began, and nobody serves; the table of the page's partition is there, and
-- isn't served.
pub record MayRedo (c : Cluster) (n q : ℕ) (w : Work) (a : Page) : Type 0 where
  pub called : CalledBy n c.disk (work_of_home w)
  pub same : all_records c.config (disk_of c n w) ≡ records c
  pub logs : length (disk_of c n w).logs ≡ c.config.nodes
  pub nobody : a.served ≡ false
  pub table : LockTable
  pub there : table_at w.node q ≡ Some table
  pub rebuilt : table.serving ≡ false

-- the current page is on disk, and its entry has its version
pub record IsRedone (q p : ℕ) (w : Work) (a : Page) : Type 0 where
  pub disk : a.disk ≡ current a
  pub entry : version_of_page (table_at w.node q) p ≡ a.now

-- a run to a state that differs in what is stored alone, related to the work after redo
pub record RedoLeads (c : Cluster) (e : Event) (n p q : ℕ) (Done : Type 0) (a : Page) (x : Work) : Type 0 where
  pub page : Page
  pub run : Run a page
  pub same : SameRest a page
  pub related : IsWorkOf c e n p x page
  pub may : MayRedo c n q x page
  pub done : Done → IsRedone q p x page

-- The redo of some pages of a partition keeps the relation: the page, where it is one of them, is on disk then as it is.
abbrev pub RedoIsRelated : Type 0
RedoIsRelated =
    (c : Cluster) (e : Event) (n p : ℕ) (rs : List ℕ) (blank : List ℕ) (w x : Work) (a : Page) → Acts c n → p < c.config.pages → Reached blank a
    → MayRedo c n (partition c.config p) w a → IsWorkOf c e n p w a → for_each (redo_page (records c) (partition c.config p)) rs w ≡ Goes x
    → RedoLeads c e n p (partition c.config p) (IsRedone (partition c.config p) p w a ⊎ Contains rs p) a x

-- No page that is redone differs.
abbrev pub RedoAgrees : Type 0
RedoAgrees =
    (c : Cluster) (e : Event) (n p q k expected found : ℕ) (w : Work) (a : Page) → CalledBy n c.disk (work_of_home w) → IsWorkOf c e n p w a
    → redo_page (records c) q p w ≡ Differs k expected found → ⊥
