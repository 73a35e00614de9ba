-- A whole install keeps the relation.
use Rattle.std.specs.Prelude.{◌≡◌, ℕ, ◌+◌, ◌<◌, ◌==◌, true, false, List, Some, None}
use Rattle.std.specs.List.{AllByRecursion}
use Rattle.pcl_base.specs.declared.event.Event.{Event}
use Rattle.run_rules.specs.Views.{View, owner_of, since_of}
use Rattle.node_rules.specs.InstallRule.{install_partition, keep_in}
use Rattle.node_rules.specs.LockTable.{LockTable}
use Rattle.node_rules.specs.NodeState.{NodeState, Install, partition, table_at}
use Rattle.node_rules.specs.NodeStep.{do_event}
use Rattle.node_rules.specs.Work.{Work, Goes}
use Rattle.cluster_rules.specs.Clusters.{Cluster, stop_at}
use Rattle.cluster_rules.specs.ClusterStep.{left_of, step}
use Rattle.cluster_rules.specs.Links.{link_at}
use Rattle.cluster_laws.specs.Era.Eras.{era_at}
use Rattle.cluster_laws.specs.Link.EpochLaws.{IsInOrder}
use Rattle.page_protocol.specs.Authority.{HaveUsed}
use Rattle.page_protocol.specs.State.{Page}
use Rattle.page_protocol.specs.Steps.{Reached}
use Rattle.page_relation.specs.Relation.{IsPageOf}
use Rattle.page_relation.specs.Together.{IsParty}
use Rattle.page_relation.specs.Work.Events.{IsEntered}
use Rattle.page_relation.specs.Work.Keeping.{IsWorkOf, Leads}
use Rattle.page_relation.specs.Work.StepEnds.{start_of, Follows}
use Rattle.page_relation.specs.Work.Unseen.{IsUnseen}
use Rattle.settle_relation.specs.Midway.{IsMidway}
use Rattle.report_relation.specs.Completing.{IsReady, NewHaveNoRight}
use Rattle.report_relation.specs.Completion.Completed.{CanBeWhole}
use Rattle.install_relation.specs.Installing.{IsInstall, IsInstalling, IsWaiting, numbers_at}
use Rattle.install_relation.specs.Knowing.{IsHeardAt}
use Rattle.install_relation.specs.Taking.{taken}

-- The turn of another partition isn't seen of the page.
abbrev pub OthersAreUnseen : Type 0
OthersAreUnseen =
    (c : Cluster) (e : Event) (n p q : ℕ) (s : NodeState) (v : View) (w x : Work) → IsInstall c e n s v → q < c.config.nodes → (q == partition c.config p) ≡ false
    → IsInstalling c e n s v q w → install_partition c.disk s.view v q w ≡ Goes x → IsInstalling c e n s v (q + 1) x × IsUnseen c e n p w x

-- An install at a cluster whose page has a state that the machine reaches. Those of the node that wait at tables have
-- reached the era; its locks were used; and a node in no view has no right.
pub record IsInstallOf (c : Cluster) (e : Event) (n p : ℕ) (s : NodeState) (v : View) (blank : List ℕ) (a : Page) : Type 0 where
  pub install : IsInstall c e n s v
  pub order : IsInOrder c
  pub parties : (x y : ℕ) → AllByRecursion (IsParty c x y) (link_at c.links x y)
  pub below : p < c.config.pages
  pub reached : Reached blank a
  pub entered : IsEntered a
  pub heard : IsHeardAt c n p (era_at c (partition c.config p) s.epoch)
  pub used : HaveUsed a n
  pub quiet : NewHaveNoRight c p
  pub related : IsPageOf c p a

-- what is known of the work and the page's state once its partition had its turn
abbrev pub IsTurned : Cluster → Event → ℕ → NodeState → View → ℕ → Work → Page → Type 0
IsTurned c e n s v k w a = IsMidway (numbers_at s v k) c e n w × IsEntered a

-- What the turn of the page's own partition needs beside. Where the node gets it and no report is missing, the machine comes
-- to a state in which the new table has all of its era; and where it keeps it, that keeps the relation.
pub record MayOwn (c : Cluster) (e : Event) (n p : ℕ) (s : NodeState) (v : View) (blank : List ℕ) (a : Page) : Type 0 where
  pub gets : (w : Work) (b : Page) (t : LockTable) → IsWaiting c e n p s v (partition c.config p) w → (owner_of v (partition c.config p) == n) ≡ true → since_of v (partition c.config p) ≡ v.epoch
      → Reached blank b → IsEntered b → IsWorkOf c e n p (taken (partition c.config p) w) b → IsReady c n (partition c.config p) (taken (partition c.config p) w) v t
      → CanBeWhole c e n p (partition c.config p) (taken (partition c.config p) w) v t b
  pub keeps : (w x : Work) (old : View) → s.view ≡ Some old → IsWaiting c e n p s v (partition c.config p) w → (owner_of v (partition c.config p) == n) ≡ true
      → since_of v (partition c.config p) ≡ since_of old (partition c.config p) → IsWorkOf c e n p w a → IsMidway (numbers_at s v (partition c.config p + 1)) c e n w
      → keep_in (table_at w.node (partition c.config p)) c.disk s.view v (partition c.config p) w ≡ Goes x
      → Leads c e n p (IsTurned c e n s v (partition c.config p + 1)) a x

-- The turn of the page's own partition keeps the relation: before it with the old view of the node, after it with the new one.
abbrev pub OwnTurnIsKept : Type 0
OwnTurnIsKept =
    (c : Cluster) (e : Event) (n p : ℕ) (s : NodeState) (v : View) (w x : Work) (blank : List ℕ) (a : Page) → IsInstallOf c e n p s v blank a → MayOwn c e n p s v blank a
    → IsWaiting c e n p s v (partition c.config p) w → install_partition c.disk s.view v (partition c.config p) w ≡ Goes x
    → Leads c e n p (IsTurned c e n s v (partition c.config p + 1)) a x

-- So does the whole install.
abbrev pub InstallIsKept : Type 0
InstallIsKept =
    (c : Cluster) (e : Event) (n p : ℕ) (s : NodeState) (v : View) (x : Work) (blank : List ℕ) (a : Page) → IsInstallOf c e n p s v blank a → MayOwn c e n p s v blank a
    → do_event c.disk (Install v) (start_of c s) ≡ Goes x → left_of n c.disk x.calls (stop_at c n) ≡ None → Follows p IsEntered a (step c e)
