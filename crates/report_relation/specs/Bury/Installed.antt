-- A partition at an install: what is known of the cluster before the event is known of the work before the partition's turn,
-- and of the one in which the node has its new table.
use Rattle.std.specs.Prelude.{◌≡◌, ℕ, ◌<◌, ◌≤◌, true, false, [], Some, None}
use Rattle.std.specs.List.{AllByRecursion, filter}
use Rattle.pcl_base.specs.declared.event.Event.{Event}
use Rattle.pcl_base.specs.declared.message.Body.TheVariants as body
use Rattle.pcl_base.specs.declared.message.Message.{Message}
use Rattle.pcl_base.specs.declared.message.Report.{Report}
use Rattle.pcl_base.specs.declared.message.ReturnRight.{ReturnRight}
use Rattle.pcl_base.specs.declared.tx.TxId.{TxId}
use Rattle.run_rules.specs.Views.{View, born_of, is_live, owner_of, since_of}
use Rattle.node_rules.specs.InstallRule.{new_table}
use Rattle.node_rules.specs.LockRule.{has_right}
use Rattle.node_rules.specs.LockTable.{LockTable, entry_at, marked}
use Rattle.node_rules.specs.NodeState.{HomeState, NodeState, number_of, partition, table_at}
use Rattle.node_rules.specs.Work.{Work}
use Rattle.cluster_rules.specs.Clusters.{Cluster, last_view, node_at, view_of_epoch}
use Rattle.cluster_rules.specs.Links.{link_at}
use Rattle.cluster_laws.specs.Era.Counts.{counts_in}
use Rattle.cluster_laws.specs.Era.Eras.{born_at, era_at, life_of}
use Rattle.cluster_laws.specs.Link.Coming.{Stands, coming, delivers, sent_to}
use Rattle.cluster_laws.specs.Link.EpochLaws.{IsInOrder}
use Rattle.page_laws.specs.Moment.Looks.{accesses_in}
use Rattle.page_relation.specs.Looks.{shelf_in}
use Rattle.related_runs.specs.Parties.{HaveParties}
use Rattle.page_relation.specs.Work.Landing.{land, Acts}
use Rattle.page_relation.specs.Work.Unseen.{SameEntry, speaks}
use Rattle.report_relation.specs.Bury.Kept.{IsKept}
use Rattle.report_relation.specs.Bury.Past.{HoldersLive, OthersLive}
use Rattle.report_relation.specs.Bury.Whole.{IsAwaited, IsKnown}

-- A work of the acting node in a new view, in which it owns the page's partition, on an event that delivers nothing: nothing
-- that speaks of the page was sent in it, and no access of the page was told; and a right of the page on the node's shelf was
-- there before, in the same life.
pub record IsInstalled (c : Cluster) (e : Event) (n p : ℕ) (s : NodeState) (v : View) (w : Work) : Type 0 where
  pub up : node_at c n ≡ Some s
  pub there : view_of_epoch c.views v.epoch ≡ Some v
  pub made : v.epoch ≤ (last_view c).epoch
  pub next : s.epoch < v.epoch
  pub number : number_of w.node ≡ n
  pub view : w.node.view ≡ Some v
  pub listed : is_live v.live n ≡ true
  pub born : w.node.home.txs.born ≡ born_of v n
  pub owner : owner_of v (partition c.config p) ≡ n
  pub unheard : (from to : ℕ) → delivers e from to ≡ false
  pub none : (to : ℕ) → filter (speaks c.config p) (sent_to to w.sends) ≡ []
  pub told : (u : TxId) → accesses_in u p (land c e n w).trace ≡ accesses_in u p c.trace
  pub shelf : (shelf_in (Some w.node) p ≡ None → ⊥) → (shelf_in (Some s) p ≡ None → ⊥) × (life_of w.node ≡ life_of s)
  pub parties : HaveParties c
  pub order : IsInOrder c

-- who used a page, or has it on a shelf, was born before an epoch; and the holders of other tables are of lives
pub record AreBornBefore (c : Cluster) (n p epoch : ℕ) : Type 0 where
  pub users : (u : TxId) → (accesses_in u p c.trace ≡ [] → ⊥) → u.born < epoch
  pub readers : (m : ℕ) (x : NodeState) → node_at c m ≡ Some x → (shelf_in (Some x) p ≡ None → ⊥) → life_of x < epoch
  pub others : OthersLive c n p

-- The table that a node keeps from its view before: its holders are of lives there, and its rights of nodes that are live
-- there; and who answered was born before the new view.
pub record WasKnown (c : Cluster) (n p : ℕ) (s : NodeState) (old v : View) (t : LockTable) : Type 0 where
  pub view : s.view ≡ Some old
  pub holders : HoldersLive old t p
  pub rights : (m : ℕ) → has_right (entry_at t p).rights m ≡ true → is_live old.live m ≡ true
  pub answers : (from to : ℕ) (m : Message) (r : ReturnRight) → Stands (link_at c.links from to) m → m.body ≡ body.Return r → r.page ≡ p → born_at c from m.epoch < v.epoch

-- So it is known before its turn.
abbrev pub InstalledIsKept : Type 0
InstalledIsKept =
    (c : Cluster) (e : Event) (n p : ℕ) (s : NodeState) (old v : View) (w : Work) (before t : LockTable) → Acts c n → IsInstalled c e n p s v w → AreBornBefore c n p v.epoch
    → WasKnown c n p s old v before → table_at w.node (partition c.config p) ≡ Some t → SameEntry p before t → IsKept c e n p old v w t

-- each report of an era on a link that counts is missing in a table
abbrev pub ReportsAreMissing : Cluster → ℕ → ℕ → NodeState → LockTable → ℕ → Type 0
ReportsAreMissing c n q s t era =
    (from : ℕ) (m : Message) (r : Report) → Stands (link_at c.links from n) m → m.body ≡ body.Report r → r.partition ≡ q → counts_in (Some s) from q m.epoch ≡ true
    → era_at c q m.epoch ≡ era → (from ≡ n → ⊥) × (marked t from ≡ false)

-- What is missing in it before, is missing then.
abbrev pub InstalledIsAwaited : Type 0
InstalledIsAwaited =
    (c : Cluster) (e : Event) (n p : ℕ) (s : NodeState) (old v : View) (w : Work) (before t : LockTable) → Acts c n → IsInstalled c e n p s v w → s.view ≡ Some old
    → SameEntry p before t → ReportsAreMissing c n (partition c.config p) s before (since_of v (partition c.config p))
    → (from : ℕ) → AllByRecursion (IsAwaited c n (partition c.config p) t (since_of v (partition c.config p)) from) (coming (land c e n w) p from n)

-- a home of the node's life in the view
pub record IsHomeIn (c : Cluster) (n : ℕ) (v : View) (h : HomeState) : Type 0 where
  pub node : h.txs.node ≡ n
  pub born : h.txs.born ≡ born_of v n
  pub known : n < h.config.nodes

-- The table that the node's own report makes is known as it has to be where no report is missing.
abbrev pub NewIsKnown : Type 0
NewIsKnown =
    (c : Cluster) (e : Event) (n p : ℕ) (s : NodeState) (v : View) (w : Work) (h : HomeState) → Acts c n → IsInstalled c e n p s v w
    → AreBornBefore c n p (since_of v (partition c.config p)) → IsHomeIn c n v h → IsKnown c e n p v w (new_table (partition c.config p) n h)
