-- Messages that come to an owner and are taken: a request, and an answer to a revocation.
use Rattle.std.specs.Prelude.{◌≡◌, ℕ, ◌<◌, List, None}
use Rattle.std.specs.List.{AllByRecursion}
use Rattle.pcl_base.specs.declared.event.Event.{Event}
use Rattle.pcl_base.specs.declared.lock.Verdict.TheVariants as verdict
use Rattle.pcl_base.specs.declared.message.Body.TheVariants as body
use Rattle.pcl_base.specs.declared.message.Message.{Message}
use Rattle.pcl_base.specs.declared.message.Request.{Request}
use Rattle.pcl_base.specs.declared.message.ReturnRight.{ReturnRight}
use Rattle.pcl_base.specs.declared.tx.TxId.{TxId}
use Rattle.node_rules.specs.NodeState.{NodeState, Deliver, number_of}
use Rattle.node_rules.specs.NodeStep.{do_event, judge_in, partition_of}
use Rattle.node_rules.specs.Work.{Work, Goes, Differs}
use Rattle.cluster_rules.specs.Clusters.{Cluster, node_at, stop_at}
use Rattle.cluster_rules.specs.ClusterStep.{left_of, step}
use Rattle.cluster_rules.specs.Links.{link_at}
use Rattle.cluster_laws.specs.Handed.{IsHanded}
use Rattle.cluster_laws.specs.Sound.{IsCluster}
use Rattle.cluster_laws.specs.Link.EpochLaws.{IsInOrder}
use Rattle.page_protocol.specs.State.{Page}
use Rattle.page_protocol.specs.Steps.{Reached}
use Rattle.page_relation.specs.Relation.{IsPageOf}
use Rattle.page_relation.specs.Together.{IsParty, WaitsAsAsked}
use Rattle.page_relation.specs.Work.Events.{IsEntered}
use Rattle.page_relation.specs.Work.StepEnds.{start_of, Follows}

-- A message that is taken, in a cluster whose page has a state that the machine reaches.
pub record IsTakenIn (c : Cluster) (e : Event) (n p from : ℕ) (s : NodeState) (m : Message) (blank : List ℕ) (a : Page) : Type 0 where
  pub cluster : IsCluster c
  pub order : IsInOrder c
  pub asks : (t : TxId) → WaitsAsAsked c t (node_at c t.node)
  pub handed : IsHanded c e n s (Deliver from m)
  pub judged : judge_in s.view (number_of s) from m.epoch (partition_of s.home.config m.body) ≡ verdict.Taken
  pub below : p < c.config.pages
  pub reached : Reached blank a
  pub entered : IsEntered a
  pub related : IsPageOf c p a

-- the step goes to a work, and nothing stops it
pub record IsWhole (c : Cluster) (n from : ℕ) (s : NodeState) (m : Message) (x : Work) : Type 0 where
  pub goes : do_event c.disk (Deliver from m) (start_of c s) ≡ Goes x
  pub whole : left_of n c.disk x.calls (stop_at c n) ≡ None

-- A request keeps the relation: with the same state its transaction waits, and then its page is settled.
abbrev pub RequestIsKept : Type 0
RequestIsKept =
    (c : Cluster) (e : Event) (n p from : ℕ) (s : NodeState) (m : Message) (r : Request) (x : Work) (blank : List ℕ) (a : Page) → IsTakenIn c e n p from s m blank a
    → IsWhole c n from s m x → m.body ≡ body.Request r → Follows p IsEntered a (step c e)

-- No page that is read for it differs.
abbrev pub RequestAgrees : Type 0
RequestAgrees =
    (c : Cluster) (e : Event) (n from : ℕ) (s : NodeState) (m : Message) (r : Request) (blank : List ℕ) (a : Page) (k expected found : ℕ)
    → IsTakenIn c e n r.page from s m blank a → m.body ≡ body.Request r → do_event c.disk (Deliver from m) (start_of c s) ≡ Differs k expected found → ⊥

-- each message from a node has its parties
abbrev pub HaveParties : Cluster → ℕ → Type 0
HaveParties c from = (k : ℕ) → AllByRecursion (IsParty c from k) (link_at c.links from k)

-- An answer to a revocation: the machine's, where the table of the page is there; and then the page is settled.
abbrev pub ReturnIsKept : Type 0
ReturnIsKept =
    (c : Cluster) (e : Event) (n p from : ℕ) (s : NodeState) (m : Message) (r : ReturnRight) (x : Work) (blank : List ℕ) (a : Page) → IsTakenIn c e n p from s m blank a
    → IsWhole c n from s m x → HaveParties c from → m.body ≡ body.Return r → Follows p IsEntered a (step c e)

-- No page that is read for it differs.
abbrev pub ReturnAgrees : Type 0
ReturnAgrees =
    (c : Cluster) (e : Event) (n from : ℕ) (s : NodeState) (m : Message) (r : ReturnRight) (blank : List ℕ) (a : Page) (k expected found : ℕ)
    → IsTakenIn c e n r.page from s m blank a → HaveParties c from → m.body ≡ body.Return r → do_event c.disk (Deliver from m) (start_of c s) ≡ Differs k expected found → ⊥
