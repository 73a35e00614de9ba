-- A table that is being rebuilt when a report comes: what is known of the cluster before the event is known of the work then.
use Rattle.std.specs.Prelude.{◌≡◌, ℕ, ◌<◌, true, false, List, [], Some, None}
use Rattle.std.specs.List.{AllByRecursion}
use Rattle.pcl_base.specs.declared.event.Event.{Event}
use Rattle.pcl_base.specs.declared.message.Body.TheVariants as body
use Rattle.pcl_base.specs.declared.message.Message.{Message}
use Rattle.pcl_base.specs.declared.message.Report.{Report}
use Rattle.pcl_base.specs.declared.tx.TxId.{TxId}
use Rattle.run_rules.specs.Views.{View, since_of}
use Rattle.node_rules.specs.LockTable.{LockTable, entry_at, marked}
use Rattle.node_rules.specs.NodeState.{NodeState, partition, table_at}
use Rattle.node_rules.specs.Reports.{gather}
use Rattle.cluster_rules.specs.Clusters.{Cluster, node_at}
use Rattle.cluster_rules.specs.Links.{link_at}
use Rattle.cluster_laws.specs.Era.Counts.{counts_in}
use Rattle.cluster_laws.specs.Era.Eras.{era_at, era_in, life_of}
use Rattle.cluster_laws.specs.Link.Coming.{Stands}
use Rattle.page_laws.specs.Moment.Looks.{accesses_in}
use Rattle.page_protocol.specs.State.{Page}
use Rattle.page_relation.specs.Looks.{shelf_in}
use Rattle.related_runs.specs.Parties.{HaveParties}
use Rattle.report_relation.specs.Completing.{IsReady}
use Rattle.report_relation.specs.Gathering.{NoneIsAhead, gathered}
use Rattle.report_relation.specs.Serving.{HasWhole}
use Rattle.settle_relation.specs.Arriving.{IsTakenIn}
use Rattle.page_relation.specs.Work.Events.{IsEntered}
use Rattle.page_relation.specs.Work.Keeping.{Leads}
use Rattle.page_relation.specs.Work.Taken.{taken_of}
use Rattle.report_relation.specs.Bury.Past.{HoldersLive, OthersLive}
use Rattle.report_relation.specs.Bury.Whole.{IsKnown, WaitsFor}

-- What is known of a table of page p's partition at node n in a view, where it is being rebuilt: the node's own report is in it;
-- who holds the page there, and in other tables, is of a life; who used the page or has it on a shelf was born before the era;
-- each report of the era that is on a link and counts is missing; and who waits is of a life whose report has come, or that
-- began later.
pub record IsKnownAt (c : Cluster) (n p : ℕ) (s : NodeState) (v : View) (t : LockTable) : Type 0 where
  pub own : marked t n ≡ true
  pub holders : HoldersLive v t p
  pub others : OthersLive c n p
  pub users : (u : TxId) → (accesses_in u p c.trace ≡ [] → ⊥) → u.born < since_of v (partition c.config p)
  pub readers : (m : ℕ) (x : NodeState) → node_at c m ≡ Some x → (shelf_in (Some x) p ≡ None → ⊥) → life_of x < since_of v (partition c.config p)
  pub awaited : (from : ℕ) (m : Message) (r : Report) → Stands (link_at c.links from n) m → m.body ≡ body.Report r → r.partition ≡ partition c.config p
      → counts_in (Some s) from (partition c.config p) m.epoch ≡ true → era_at c (partition c.config p) m.epoch ≡ since_of v (partition c.config p) → (from ≡ n → ⊥) × (marked t from ≡ false)
  pub waiting : AllByRecursion (WaitsFor v t (since_of v (partition c.config p))) (entry_at t p).waiting

-- a report of the page's partition is taken at a node that rebuilds its table
pub record IsReportOf (c : Cluster) (e : Event) (n p from : ℕ) (s : NodeState) (m : Message) (r : Report) (v : View) (t : LockTable) (blank : List ℕ) (a : Page) : Type 0 where
  pub taken : IsTakenIn c e n p from s m blank a
  pub parties : HaveParties c
  pub report : m.body ≡ body.Report r
  pub own : r.partition ≡ partition c.config p
  pub inside : partition c.config p < c.config.nodes
  pub view : s.view ≡ Some v
  pub there : table_at s (partition c.config p) ≡ Some t
  pub rebuilt : t.serving ≡ false

-- So nobody is ahead of it.
abbrev pub NobodyIsAheadOfIt : Type 0
NobodyIsAheadOfIt =
    (c : Cluster) (e : Event) (n p from : ℕ) (s : NodeState) (m : Message) (r : Report) (v : View) (t : LockTable) (blank : List ℕ) (a : Page)
    → IsReportOf c e n p from s m r v t blank a → IsKnownAt c n p s v t → NoneIsAhead a.listed (era_in s.view (partition c.config p)) p t

-- The table with it is known as it has to be where no further report is missing.
abbrev pub GatheredIsKnown : Type 0
GatheredIsKnown =
    (c : Cluster) (e : Event) (n p from : ℕ) (s : NodeState) (m : Message) (r : Report) (v : View) (t : LockTable) (blank : List ℕ) (a : Page)
    → IsReportOf c e n p from s m r v t blank a → IsKnownAt c n p s v t
    → IsKnown c e n p v (gathered (partition c.config p) t from r (taken_of c s)) (gather t from r)

-- And then the machine comes to a state in which it has all of its era.
abbrev pub GatheredIsWhole : Type 0
GatheredIsWhole =
    (c : Cluster) (e : Event) (n p from : ℕ) (s : NodeState) (m : Message) (r : Report) (v : View) (t : LockTable) (blank : List ℕ) (a : Page) (u : View) (k : LockTable)
    → IsReportOf c e n p from s m r v t blank a → IsKnownAt c n p s v t → IsReady c n (partition c.config p) (gathered (partition c.config p) t from r (taken_of c s)) u k
    → Leads c e n p (λ x b. IsEntered b × HasWhole c e n p (partition c.config p) (since_of u (partition c.config p)) x k b) a (gathered (partition c.config p) t from r (taken_of c s))
