-- What a table that is being rebuilt needs when a report comes, and when no report is missing.
use Rattle.std.specs.Prelude.{◌≡◌, ◌≢◌, ◌⊎◌, ℕ, ◌<◌, true, false, List, [], Some, None}
use Rattle.std.specs.List.{AllByRecursion}
use Rattle.pcl_base.specs.declared.event.Event.{Event}
use Rattle.pcl_base.specs.declared.lock.Waiter.{Waiter}
use Rattle.pcl_base.specs.declared.message.Message.{Message}
use Rattle.pcl_base.specs.declared.tx.TxId.{TxId}
use Rattle.run_rules.specs.Views.{View, born_of, since_of}
use Rattle.node_rules.specs.LockTable.{LockTable, entry_at, marked}
use Rattle.node_rules.specs.NodeState.{NodeState, partition, table_at}
use Rattle.node_rules.specs.Work.{Work}
use Rattle.cluster_rules.specs.Clusters.{Cluster, node_at}
use Rattle.cluster_laws.specs.Era.Eras.{era_at, era_in, life_of}
use Rattle.cluster_laws.specs.Link.Coming.{coming}
use Rattle.cluster_laws.specs.Link.Orders.{is_report}
use Rattle.page_laws.specs.Moment.Looks.{accesses_in}
use Rattle.page_protocol.specs.Laws.{LaterAreUsed}
use Rattle.page_protocol.specs.State.{Page}
use Rattle.page_protocol.specs.Steps.{Reached}
use Rattle.page_relation.specs.Looks.{shelf_in}
use Rattle.related_runs.specs.Parties.{IsLiving}
use Rattle.report_relation.specs.Completing.{IsReady}
use Rattle.report_relation.specs.Gathering.{NoneIsAhead}
use Rattle.report_relation.specs.Serving.{HasWhole}
use Rattle.page_relation.specs.Work.Events.{IsEntered}
use Rattle.page_relation.specs.Work.Keeping.{IsWorkOf, Leads}
use Rattle.page_relation.specs.Work.Landing.{land, Acts}
use Rattle.report_relation.specs.Bury.Past.{HoldersLive, IsOwner, OthersLive}

-- who has accessed a page was born before an era
abbrev pub UsersAreBorn : Cluster → Event → ℕ → ℕ → Work → ℕ → Type 0
UsersAreBorn c e n p w era = (t : TxId) → (accesses_in t p (land c e n w).trace ≡ [] → ⊥) → t.born < era

-- so was a node that has a right of it on its shelf
abbrev pub ReadersAreBorn : Cluster → Event → ℕ → ℕ → Work → ℕ → Type 0
ReadersAreBorn c e n p w era = (m : ℕ) (s : NodeState) → node_at (land c e n w) m ≡ Some s → (shelf_in (Some s) p ≡ None → ⊥) → life_of s < era

-- who waits at a table is of a life in the view, whose report has come, or that began after the era
pub record WaitsFor (v : View) (t : LockTable) (era : ℕ) (x : Waiter) : Type 0 where
  pub living : IsLiving v x.tx
  pub marks : (marked t x.tx.node ≡ true) ⊎ (era < born_of v x.tx.node)

-- So nobody is ahead of a report.
abbrev pub NobodyIsAhead : Type 0
NobodyIsAhead =
    (c : Cluster) (e : Event) (n p : ℕ) (v : View) (t : LockTable) (w : Work) (a : Page) → Acts c n → w.node.view ≡ Some v → table_at w.node (partition c.config p) ≡ Some t
    → t.serving ≡ false → AllByRecursion (WaitsFor v t (since_of v (partition c.config p))) (entry_at t p).waiting → UsersAreBorn c e n p w (since_of v (partition c.config p))
    → LaterAreUsed a → IsWorkOf c e n p w a → NoneIsAhead a.listed (era_in w.node.view (partition c.config p)) p t

-- a report of an era that still comes to the owner is one that its table misses
abbrev pub IsAwaited : Cluster → ℕ → ℕ → LockTable → ℕ → ℕ → Message → Type 0
IsAwaited c n q t era from m = is_report m.body ≡ true → era_at c q m.epoch ≡ era → (from ≢ n) × (marked t from ≡ false)

-- What is known of a table without a missing report, at its owner: the owner's report is in it, its holders and those of other
-- tables live, who used the page was born before the era, and reports of the era that still come are missing ones.
pub record IsKnown (c : Cluster) (e : Event) (n p : ℕ) (v : View) (w : Work) (t : LockTable) : Type 0 where
  pub owner : IsOwner c e n p v w
  pub own : marked t n ≡ true
  pub holders : HoldersLive v t p
  pub others : OthersLive c n p
  pub users : UsersAreBorn c e n p w (since_of v (partition c.config p))
  pub readers : ReadersAreBorn c e n p w (since_of v (partition c.config p))
  pub awaited : (from : ℕ) → AllByRecursion (IsAwaited c n (partition c.config p) t (since_of v (partition c.config p)) from) (coming (land c e n w) p from n)

-- So the machine comes to a state of the same work in which the table has all of its era.
abbrev pub KnownIsWhole : Type 0
KnownIsWhole =
    (c : Cluster) (e : Event) (n p : ℕ) (v : View) (t : LockTable) (blank : List ℕ) (w : Work) (a : Page) → Acts c n → partition c.config p < c.config.nodes
    → IsReady c n (partition c.config p) w v t → IsKnown c e n p v w t → Reached blank a → IsWorkOf c e n p w a → IsEntered a
    → Leads c e n p (λ x b. IsEntered b × HasWhole c e n p (partition c.config p) (since_of v (partition c.config p)) x t b) a w
