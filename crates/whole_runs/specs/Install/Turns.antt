-- The turn of a page's partition in a whole install.
use Rattle.std.specs.Prelude.{◌≡◌, ℕ, ◌+◌, ◌<◌, ◌==◌, true, false, List, Some}
use Rattle.pcl_base.specs.declared.event.Event.{Event}
use Rattle.run_rules.specs.Views.{View, owner_of, since_of}
use Rattle.node_rules.specs.InstallRule.{complete, keep_in, purge_table, purge_work}
use Rattle.node_rules.specs.LockTable.{LockTable}
use Rattle.node_rules.specs.NodeState.{NodeState, partition, table_at}
use Rattle.node_rules.specs.Work.{Work, Goes}
use Rattle.cluster_rules.specs.Clusters.{Cluster, node_at}
use Rattle.cluster_laws.specs.Sound.{IsCluster}
use Rattle.cluster_laws.specs.Era.Eras.{era_at}
use Rattle.page_protocol.specs.Authority.{HaveUsed}
use Rattle.page_protocol.specs.State.{Page}
use Rattle.page_protocol.specs.Steps.{Reached}
use Rattle.related_runs.specs.RunLaws.{IsOfRun}
use Rattle.report_relation.specs.Completing.{IsReady, NewHaveNoRight}
use Rattle.settle_relation.specs.Midway.{IsMidway}
use Rattle.kept_relation.specs.Turn.Standing.{as_before}
use Rattle.cluster_facts.specs.Waiting.Reached.{HaveReached}
use Rattle.page_relation.specs.Work.Events.{IsEntered}
use Rattle.page_relation.specs.Work.Keeping.{IsWorkOf, Leads}
use Rattle.report_relation.specs.Bury.Kept.{IsKept}
use Rattle.report_relation.specs.Bury.Whole.{IsKnown}
use Rattle.report_relation.specs.Completion.Completed.{CanBeWhole, MayBeWhole}
use Rattle.install_relation.specs.Installing.{IsInstall, IsWaiting, numbers_at}
use Rattle.install_relation.specs.Knowing.{IsHeardAt}
use Rattle.install_relation.specs.Taking.{taken}
use Rattle.cluster_facts.specs.Facts.{HaveFacts}
use Rattle.cluster_facts.specs.Reports.Unviewed.{NoRightsUnviewed}

-- A node installs a view, from a cluster of a run, and the page's partition has its turn.
pub record IsTurn (blank : List ℕ) (c : Cluster) (e : Event) (n p : ℕ) (s : NodeState) (v : View) (w : Work) : Type 0 where
  pub run : IsOfRun blank c
  pub facts : HaveFacts c
  pub install : IsInstall c e n s v
  pub low : p < c.config.pages
  pub waits : IsWaiting c e n p s v (partition c.config p) w

-- A node in no view has no right of the page.
abbrev pub UnviewedAreQuiet : Type 0
UnviewedAreQuiet = (c : Cluster) (p : ℕ) → NoRightsUnviewed c → NewHaveNoRight c p

-- Who waits at a table and is of a node that is up waits in no later era than the one that the node has reached.
abbrev pub WaitersAreHeard : Type 0
WaitersAreHeard =
    (c : Cluster) (n p : ℕ) (s : NodeState) → IsCluster c → HaveReached c → node_at c n ≡ Some s → IsHeardAt c n p (era_at c (partition c.config p) s.epoch)

-- Before the turn each lock of the node was used.
abbrev pub TurnsAreUsed : Type 0
TurnsAreUsed =
    (blank : List ℕ) (c : Cluster) (e : Event) (n p : ℕ) (s : NodeState) (v : View) (w : Work) (a : Page) → IsTurn blank c e n p s v w
    → IsWorkOf c e n p (as_before s w) a → HaveUsed a n

-- A work that is known so, and of which the state of the page may stand between two events.
abbrev pub IsNow : Cluster → Event → ℕ → ℕ → NodeState → View → Work → Page → Type 0
IsNow c e n p s v w a = IsMidway (numbers_at s v (partition c.config p + 1)) c e n w × IsEntered a

-- the node owns the partition in its new view, and did so before, or it has it from now on
abbrev pub IsKeptBy : Cluster → ℕ → ℕ → View → Type 0
IsKeptBy c n p v = ((owner_of v (partition c.config p) == n) ≡ true) × ((since_of v (partition c.config p) == v.epoch) ≡ false)

abbrev pub IsGotBy : Cluster → ℕ → ℕ → View → Type 0
IsGotBy c n p v = ((owner_of v (partition c.config p) == n) ≡ true) × ((since_of v (partition c.config p) == v.epoch) ≡ true)

-- What is known of a table that the node keeps.
abbrev pub TurnsAreKept : Type 0
TurnsAreKept =
    (blank : List ℕ) (c : Cluster) (e : Event) (n p : ℕ) (s : NodeState) (old v : View) (w : Work) (t : LockTable) → IsTurn blank c e n p s v w → IsKeptBy c n p v → s.view ≡ Some old
    → table_at w.node (partition c.config p) ≡ Some t → IsKept c e n p old v w t

-- And of one that is being rebuilt, once it is purged.
abbrev pub TurnsArePurged : Type 0
TurnsArePurged =
    (blank : List ℕ) (c : Cluster) (e : Event) (n p : ℕ) (s : NodeState) (old v : View) (w : Work) (t : LockTable) → IsTurn blank c e n p s v w → IsKeptBy c n p v → s.view ≡ Some old
    → table_at w.node (partition c.config p) ≡ Some t → t.serving ≡ false → IsKnown c e n p v (purge_work (partition c.config p) v w) (purge_table v.live t)

-- A partition that the node keeps is worked off.
abbrev pub KeptGoesOn : Type 0
KeptGoesOn =
    (blank : List ℕ) (c : Cluster) (e : Event) (n p : ℕ) (s : NodeState) (v : View) (w x : Work) (a : Page) → IsTurn blank c e n p s v w → IsKeptBy c n p v
    → Reached blank a → IsWorkOf c e n p w a → IsEntered a → keep_in (table_at w.node (partition c.config p)) c.disk s.view v (partition c.config p) w ≡ Goes x
    → Leads c e n p (IsNow c e n p s v) a x

-- The new table of one that it gets has all of its era where it misses no report.
abbrev pub TakenCanBeWhole : Type 0
TakenCanBeWhole =
    (blank : List ℕ) (c : Cluster) (e : Event) (n p : ℕ) (s : NodeState) (v : View) (w : Work) (a : Page) (t : LockTable) → IsTurn blank c e n p s v w → IsGotBy c n p v
    → Reached blank a → IsWorkOf c e n p (taken (partition c.config p) w) a → IsEntered a → IsReady c n (partition c.config p) (taken (partition c.config p) w) v t
    → CanBeWhole c e n p (partition c.config p) (taken (partition c.config p) w) v t a

-- So it may be completed.
abbrev pub TakenMayComplete : Type 0
TakenMayComplete =
    (blank : List ℕ) (c : Cluster) (e : Event) (n p : ℕ) (s : NodeState) (v : View) (w : Work) (a : Page) → IsTurn blank c e n p s v w → IsGotBy c n p v
    → Reached blank a → IsWorkOf c e n p (taken (partition c.config p) w) a → IsEntered a → MayBeWhole c e n p (partition c.config p) (taken (partition c.config p) w) a

-- And it is.
abbrev pub TakenIsCompleted : Type 0
TakenIsCompleted =
    (blank : List ℕ) (c : Cluster) (e : Event) (n p : ℕ) (s : NodeState) (v : View) (w x : Work) (a : Page) → IsTurn blank c e n p s v w → IsGotBy c n p v
    → Reached blank a → IsWorkOf c e n p (taken (partition c.config p) w) a → IsEntered a → complete c.disk (partition c.config p) (taken (partition c.config p) w) ≡ Goes x
    → Leads c e n p (IsNow c e n p s v) a x
