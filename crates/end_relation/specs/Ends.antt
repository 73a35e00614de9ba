-- The end of a transaction keeps the relation of each page.
use Rattle.std.specs.Prelude.{◌≡◌, ℕ, ◌<◌, Bool, true, false, List, None}
use Rattle.pcl_base.specs.declared.event.Event.{Event}
use Rattle.pcl_base.specs.declared.tx.TxId.{TxId}
use Rattle.node_rules.specs.EndRule.{endings}
use Rattle.node_rules.specs.NodeState.{NodeState, NodeEvent, Commit, Abort, partition}
use Rattle.node_rules.specs.NodeStep.{do_event}
use Rattle.node_rules.specs.Refusals.{refusal}
use Rattle.node_rules.specs.Work.{Work, Goes, Differs}
use Rattle.node_laws.proofs.Bases.{base_of}
use Rattle.cluster_rules.specs.Clusters.{Cluster, stop_at}
use Rattle.cluster_rules.specs.ClusterStep.{left_of, step}
use Rattle.cluster_laws.specs.Handed.{IsHanded}
use Rattle.page_protocol.specs.State.{Page}
use Rattle.page_protocol.specs.Steps.{Run}
use Rattle.page_relation.specs.Together.{IsRelated}
use Rattle.page_relation.specs.Loss.Writes.{ScriptsFit}
use Rattle.page_relation.specs.Work.Events.{IsEntered}
use Rattle.page_relation.specs.Work.Keeping.{IsWorkOf}
use Rattle.page_relation.specs.Work.StepEnds.{start_of, Follows}
use Rattle.end_relation.specs.Midway.{IsMidway, OwnEndsKeep, OwnEndsGo}
use Rattle.end_relation.specs.Over.{over_of}
use Rattle.end_relation.specs.Owing.{AreOwed, SameComing}

-- A node is asked to end a transaction, and doesn't refuse, in a cluster that is related and whose pages are all entered; of the
-- ends that it tells at its own tables the relation is taken.
pub record CanEnd (blank : List ℕ) (c : Cluster) (e : Event) (n : ℕ) (s : NodeState) (ev : NodeEvent) (t : TxId) (r : IsRelated blank c) : Type 0 where
  pub handed : IsHanded c e n s ev
  pub free : refusal s ev ≡ None
  pub entered : (p : ℕ) → p < c.config.pages → IsEntered (r.pages.page p)
  pub own : (p : ℕ) → p < c.config.pages → OwnEndsKeep (base_of s) c e n p t

-- One page once the transaction was closed at its home and answered: the machine ran to a state that the work then has, in
-- which the end is still owed, and nothing more comes that speaks of the page than before.
pub record LeavesEnd (c : Cluster) (e : Event) (n p : ℕ) (s : NodeState) (b : Bool) (t : TxId) (a : Page) : Type 0 where
  pub page : Page
  pub run : Run a page
  pub related : IsWorkOf c e n p (over_of b t c s) page
  pub midway : IsMidway (base_of s) c e n (over_of b t c s)
  pub owed : AreOwed (SameComing c e n p (over_of b t c s)) ((base_of s).has (partition s.home.config p)) n t p (endings s.home t b) page

-- An abort leaves each page so,
abbrev pub AbortLeaves : Type 0
AbortLeaves =
    (blank : List ℕ) (c : Cluster) (e : Event) (n : ℕ) (s : NodeState) (t : TxId) (r : IsRelated blank c) → CanEnd blank c e n s (Abort t) t r
    → (p : ℕ) → p < c.config.pages → LeavesEnd c e n p s false t (r.pages.page p)

-- and a commit all at once.
abbrev pub CommitLeaves : Type 0
CommitLeaves =
    (blank : List ℕ) (c : Cluster) (e : Event) (n : ℕ) (s : NodeState) (t : TxId) (r : IsRelated blank c) → CanEnd blank c e n s (Commit t) t r → ScriptsFit c r.pages.page
    → (p : ℕ) → p < c.config.pages → LeavesEnd c e n p s true t (r.pages.page p)

-- An abort: at each page the transaction ends without a commit, and its owner is told.
abbrev pub AbortIsKept : Type 0
AbortIsKept =
    (blank : List ℕ) (c : Cluster) (e : Event) (n : ℕ) (s : NodeState) (t : TxId) (w : Work) (r : IsRelated blank c) → CanEnd blank c e n s (Abort t) t r
    → do_event c.disk (Abort t) (start_of c s) ≡ Goes w → left_of n c.disk w.calls (stop_at c n) ≡ None
    → (p : ℕ) → p < c.config.pages → Follows p IsEntered (r.pages.page p) (step c e)

-- A commit: all pages that it wrote come to their next versions at once, and each page's owner is told.
abbrev pub CommitIsKept : Type 0
CommitIsKept =
    (blank : List ℕ) (c : Cluster) (e : Event) (n : ℕ) (s : NodeState) (t : TxId) (w : Work) (r : IsRelated blank c) → CanEnd blank c e n s (Commit t) t r
    → ScriptsFit c r.pages.page → do_event c.disk (Commit t) (start_of c s) ≡ Goes w → left_of n c.disk w.calls (stop_at c n) ≡ None
    → (p : ℕ) → p < c.config.pages → Follows p IsEntered (r.pages.page p) (step c e)

-- No page differs in an abort, nor in a commit, where none does in the ends that are told at the node's own tables.
abbrev pub AbortGoes : Type 0
AbortGoes =
    (blank : List ℕ) (c : Cluster) (e : Event) (n : ℕ) (s : NodeState) (t : TxId) (r : IsRelated blank c) (q expected found : ℕ) → CanEnd blank c e n s (Abort t) t r
    → OwnEndsGo blank (base_of s) c e n t → do_event c.disk (Abort t) (start_of c s) ≡ Differs q expected found → ⊥

-- the same of a commit
abbrev pub CommitGoes : Type 0
CommitGoes =
    (blank : List ℕ) (c : Cluster) (e : Event) (n : ℕ) (s : NodeState) (t : TxId) (r : IsRelated blank c) (q expected found : ℕ) → CanEnd blank c e n s (Commit t) t r
    → ScriptsFit c r.pages.page → OwnEndsGo blank (base_of s) c e n t → do_event c.disk (Commit t) (start_of c s) ≡ Differs q expected found → ⊥
