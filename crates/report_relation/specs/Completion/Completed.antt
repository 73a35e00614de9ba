-- A partition that a node completes: where its table misses no report it is redone, served and settled.
use Rattle.std.specs.Prelude.{◌≡◌, ℕ, ◌<◌, ◌==◌, false, length}
use Rattle.pcl_base.specs.declared.event.Event.{Event}
use Rattle.run_rules.specs.Redo.{all_records}
use Rattle.run_rules.specs.Views.{View, since_of}
use Rattle.node_rules.specs.InstallRule.{complete, owned_before}
use Rattle.node_rules.specs.LockTable.{LockTable}
use Rattle.node_rules.specs.NodeState.{partition}
use Rattle.node_rules.specs.Work.{Work, Goes}
use Rattle.node_laws.proofs.Works.{Base}
use Rattle.cluster_rules.specs.Clusters.{Cluster}
use Rattle.cluster_laws.specs.Link.EpochLaws.{IsInOrder}
use Rattle.page_protocol.specs.State.{Page}
use Rattle.page_protocol.specs.Steps.{Run}
use Rattle.page_relation.specs.Work.Events.{IsEntered}
use Rattle.page_relation.specs.Work.Keeping.{IsWorkOf, Keeps}
use Rattle.page_relation.specs.Work.Landing.{Acts, disk_of}
use Rattle.page_relation.specs.Work.Unseen.{IsUnseen}
use Rattle.settle_relation.specs.Midway.{IsMidway}
use Rattle.report_relation.specs.Completing.{IsReady, NewHaveNoRight}
use Rattle.report_relation.specs.Redoing.{records}
use Rattle.report_relation.specs.Serving.{HasWhole}

-- a run to a state of the same work in which the table has all of its era
pub record CanBeWhole (c : Cluster) (e : Event) (n p q : ℕ) (w : Work) (v : View) (t : LockTable) (a : Page) : Type 0 where
  pub page : Page
  pub run : Run a page
  pub related : IsWorkOf c e n p w page
  pub entered : IsEntered page
  pub whole : HasWhole c e n p q (since_of v q) w t page

-- What completing needs beside the relation: the logs still have the records of the step's start, and where the page's
-- table misses no report the machine comes to a state in which the table has all of its era.
pub record MayBeWhole (c : Cluster) (e : Event) (n p q : ℕ) (w : Work) (a : Page) : Type 0 where
  pub same : all_records c.config (disk_of c n w) ≡ records c
  pub logs : length (disk_of c n w).logs ≡ c.config.nodes
  pub whole : (v : View) (t : LockTable) → q ≡ partition c.config p → IsReady c n q w v t → CanBeWhole c e n p q w v t a

-- the node has a table of a partition just where it owns that in its view
abbrev pub Owns : Base → ℕ → Type 0
Owns b q = b.has q ≡ owned_before b.view q b.number

-- Completing any partition keeps the relation of each page.
abbrev pub CompleteKeeps : Type 0
CompleteKeeps =
    (b : Base) (c : Cluster) (e : Event) (n p q : ℕ) → Acts c n → IsInOrder c → p < c.config.pages → q < c.config.nodes → NewHaveNoRight c p → Owns b q
    → Keeps c e n p (λ w a. IsMidway b c e n w × IsEntered a × MayBeWhole c e n p q w a) (complete c.disk q) (λ w a. IsMidway b c e n w × IsEntered a)

-- what is known of the work stays, and nothing is seen of a page
pub record IsBeside (b : Base) (c : Cluster) (e : Event) (n p : ℕ) (w x : Work) : Type 0 where
  pub midway : IsMidway b c e n x
  pub unseen : IsUnseen c e n p w x

-- Where the page is of another partition nothing is seen of it.
abbrev pub CompleteIsBeside : Type 0
CompleteIsBeside =
    (b : Base) (c : Cluster) (e : Event) (n p q : ℕ) (w x : Work) → q < c.config.nodes → (q == partition c.config p) ≡ false → IsMidway b c e n w
    → complete c.disk q w ≡ Goes x → IsBeside b c e n p w x
