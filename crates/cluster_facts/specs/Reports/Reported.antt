-- Reports on links, and the flags of tables that are being rebuilt.
use Rattle.std.specs.Prelude.{◌≡◌, ◌≢◌, ◌⊎◌, ℕ, ◌<◌, ◌≤◌, ◌==◌, Bool, true, false, List, [], ◌∷◌, Option, Some, None, is_some, IfSome}
use Rattle.std.specs.List.{filter}
use Rattle.pcl_base.specs.Limits.{Sizes}
use Rattle.pcl_base.specs.declared.message.Body.{Body}
use Rattle.pcl_base.specs.declared.message.Body.TheVariants as body
use Rattle.pcl_base.specs.declared.message.Message.{Message}
use Rattle.run_rules.specs.Views.{View, since_of}
use Rattle.node_rules.specs.LockTable.{LockTable, marked}
use Rattle.node_rules.specs.NodeState.{NodeState, table_at, partition}
use Rattle.cluster_rules.specs.Clusters.{Cluster, node_at, last_view}
use Rattle.cluster_rules.specs.Links.{link_at}
use Rattle.cluster_laws.specs.Era.Eras.{era_at, owner_at, born_at, live_at}
use Rattle.cluster_laws.specs.Era.Counts.{counts_in}
use Rattle.cluster_laws.specs.Link.Coming.{Stands}
use Rattle.cluster_laws.specs.Link.Orders.{AreOrdered}

-- whether a message brings transactions that wait for pages of a partition: a request or a report
abbrev pub asks_of : Sizes → ℕ → Body → Bool
asks_of c q (body.Request r) = partition c r.page == q
asks_of c q (body.Report r) = r.partition == q
asks_of c q _ = false

-- a report of a partition
abbrev pub IsReportOf : ℕ → Body → Type 0
IsReportOf q (body.Report r) = r.partition ≡ q
IsReportOf q _ = ⊥

-- a report of a partition, of an epoch, stands among messages
abbrev pub HasReport : ℕ → ℕ → List Message → Type 0
HasReport q e [] = ⊥
HasReport q e (m ∷ ms) = ((m.epoch ≡ e) × IsReportOf q m.body) ⊎ HasReport q e ms

-- On each link a report of a partition stands before all that asks in its epoch, and no other one is of that epoch.
abbrev pub ReportsComeFirst : Cluster → Type 0
ReportsComeFirst c = (a b q : ℕ) → AreOrdered 0 (filter (λ (m : Message). asks_of c.config q m.body) (link_at c.links a b))

-- a node has reached an era, where it is up
abbrev pub EraReached : ℕ → Option NodeState → Type 0
EraReached era o = IfSome o (λ r. era ≤ r.epoch)

-- a table of an era that is being rebuilt marks its own node, and no node that hasn't reached the era
pub record AreMarks (c : Cluster) (era me : ℕ) (t : LockTable) : Type 0 where
  pub own : marked t me ≡ true
  pub reached : (m : ℕ) → marked t m ≡ true → EraReached era (node_at c m)

-- the same of all nodes
abbrev pub MarksAreReached : Cluster → Type 0
MarksAreReached c =
    (n : ℕ) (s : NodeState) (v : View) (q : ℕ) (t : LockTable) → node_at c n ≡ Some s → s.view ≡ Some v → q < c.config.nodes → table_at s q ≡ Some t → t.serving ≡ false
    → AreMarks c (since_of v q) n t

-- A table that is being rebuilt doesn't mark a node whose report for its era is on the way.
abbrev pub UnmarkedAreAwaited : Cluster → Type 0
UnmarkedAreAwaited c =
    (n : ℕ) (s : NodeState) (v : View) (q : ℕ) (t : LockTable) (m : ℕ) → node_at c n ≡ Some s → s.view ≡ Some v → q < c.config.nodes → table_at s q ≡ Some t → t.serving ≡ false
    → HasReport q (since_of v q) (link_at c.links m n) → marked t m ≡ false

-- a node has taken the report of another one for an era: it serves its table, or marks the other in it
pub record HasTaken (q era m : ℕ) (s : NodeState) : Type 0 where
  pub view : View
  pub there : s.view ≡ Some view
  pub now : since_of view q ≡ era
  pub table : LockTable
  pub at : table_at s q ≡ Some table
  pub marks : (table.serving ≡ true) ⊎ (marked table m ≡ true)

-- the same of a node that may be down
abbrev pub TakenIn : ℕ → ℕ → ℕ → Option NodeState → Type 0
TakenIn q era m None = ⊥
TakenIn q era m (Some s) = HasTaken q era m s

-- Node a owes node b a report of a partition for the era of an epoch: a lives then, and was born by the era, b is
-- the owner, and counts what a sends in that epoch.
pub record IsOwed (c : Cluster) (a b q e : ℕ) : Type 0 where
  pub other : a ≢ b
  pub low : q < c.config.nodes
  pub made : e ≤ (last_view c).epoch
  pub live : live_at c a e ≡ true
  pub born : born_at c a e ≤ era_at c q e
  pub owner : owner_at c q e ≡ b
  pub counts : counts_in (node_at c b) a q e ≡ true

-- the report is on the way, or was taken
abbrev pub IsReported : Cluster → ℕ → ℕ → ℕ → ℕ → Type 0
IsReported c a b q era = HasReport q era (link_at c.links a b) ⊎ TakenIn q era a (node_at c b)

-- What is known of reports in every cluster of a run: their order, what tables mark, and that a report that is owed in
-- the epoch of a node, or of a message, was sent.
pub record HaveReports (c : Cluster) : Type 0 where
  pub first : ReportsComeFirst c
  pub reached : MarksAreReached c
  pub awaited : UnmarkedAreAwaited c
  pub viewed : (a b q : ℕ) (s : NodeState) → node_at c a ≡ Some s → is_some s.view ≡ true → IsOwed c a b q s.epoch → IsReported c a b q (era_at c q s.epoch)
  pub sent : (a b q : ℕ) (m : Message) → Stands (link_at c.links a b) m → IsOwed c a b q m.epoch → IsReported c a b q (era_at c q m.epoch)
