-- The redo of pages for which lost nodes' logs are newer than the entry.
use Rattle.std.specs.Prelude.{◌≡◌, ℕ, ◌<◌, true, List, Some, None}
use Rattle.std.proofs.Common.{suc}
use Rattle.pcl_base.specs.declared.event.Event.{Event}
use Rattle.pcl_base.specs.declared.log.Record.{Record}
use Rattle.run_rules.specs.Redo.{records_in, all_records}
use Rattle.node_rules.specs.InstallRule.{redo_lost}
use Rattle.node_rules.specs.LockTable.{LockTable, pages_of}
use Rattle.node_rules.specs.NodeState.{partition, table_at}
use Rattle.node_rules.specs.Work.{Work, Differs, for_each, work_of_home}
use Rattle.cluster_rules.specs.Clusters.{Cluster}
use Rattle.page_protocol.specs.State.{Page}
use Rattle.page_protocol.specs.Steps.{Reached}
use Rattle.page_laws.specs.Storage.Looks.{is_among}
use Rattle.page_relation.specs.Work.Events.{IsEntered}
use Rattle.page_relation.specs.Work.Keeping.{IsWorkOf, Keeps}
use Rattle.page_relation.specs.Work.Landing.{Acts, disk_of}
use Rattle.page_relation.specs.Work.Letting.{CalledBy}
use Rattle.page_relation.specs.Work.Unseen.{SameStanding}

-- the locks, rights and transactions of a state, and its era
pub record SameClaims (a b : Page) : Type 0 where
  pub listed : b.listed ≡ a.listed
  pub home : b.home ≡ a.home
  pub right : b.right ≡ a.right
  pub era : b.era ≡ a.era

-- where redo started: it sends and answers nothing
pub record IsSince (w x : Work) (a b : Page) : Type 0 where
  pub claims : SameClaims a b
  pub standing : SameStanding w.node x.node
  pub replies : x.replies ≡ w.replies
  pub sends : x.sends ≡ w.sends

-- what is known of a work before the redo of a page of a partition whose table serves: its calls so far wrote pages alone
pub record MayRedo (c : Cluster) (n q : ℕ) (first : Work) (start : Page) (w : Work) (a : Page) : Type 0 where
  pub since : IsSince first w start a
  pub entered : IsEntered a
  pub called : CalledBy n c.disk (work_of_home w)
  pub logs : (disk_of c n w).logs ≡ c.disk.logs
  pub config : w.node.home.config ≡ c.config
  pub table : LockTable
  pub there : table_at w.node q ≡ Some table
  pub serving : table.serving ≡ true

-- no log of these nodes has the change after the entry
abbrev pub HaveNoNext : List ℕ → Page → Type 0
HaveNoNext lost a = (m : ℕ) → is_among lost m ≡ true → a.log m (suc a.entry) ≡ None

-- what is known then
pub record IsRedone (c : Cluster) (n q : ℕ) (lost : List ℕ) (first : Work) (start : Page) (w : Work) (a : Page) : Type 0 where
  pub may : MayRedo c n q first start w a
  pub none : HaveNoNext lost a

-- Redo of a partition for lost nodes keeps the relation of each of its pages: the machine's redo where their logs are
-- newer than the entry. Then they have no change after it.
abbrev pub RedoKeeps : Type 0
RedoKeeps =
    (c : Cluster) (e : Event) (n p : ℕ) (lost : List ℕ) (first : Work) (start : Page) → Acts c n → p < c.config.pages
    → Keeps c e n p (MayRedo c n (partition c.config p) first start)
    (λ w. for_each (redo_lost (records_in c.config c.disk lost) (all_records c.config c.disk) (partition c.config p)) (pages_of c.config (partition c.config p)) w)
    (IsRedone c n (partition c.config p) lost first start)

-- No page that is read for it differs.
abbrev pub RedoAgrees : Type 0
RedoAgrees =
    (c : Cluster) (e : Event) (n p : ℕ) (lost rs : List Record) (blank : List ℕ) (w : Work) (a : Page) → Acts c n → Reached blank a → IsWorkOf c e n p w a
    → CalledBy n c.disk (work_of_home w) → (k expected found : ℕ) → redo_lost lost rs (partition c.config p) p w ≡ Differs k expected found → ⊥
