-- A grant that arrives, whole: a right or a lock is taken where its transaction waits for it.
use Rattle.std.specs.Prelude.{◌≡◌, ℕ, ◌<◌, List}
use Rattle.std.specs.List.{AllByRecursion}
use Rattle.pcl_base.specs.declared.event.Event.{Event}
use Rattle.pcl_base.specs.declared.lock.Verdict.TheVariants as verdict
use Rattle.pcl_base.specs.declared.message.Body.TheVariants as body
use Rattle.pcl_base.specs.declared.message.Grant.{Grant}
use Rattle.pcl_base.specs.declared.message.Message.{Message}
use Rattle.pcl_base.specs.declared.tx.TxId.{TxId}
use Rattle.node_rules.specs.NodeState.{NodeState, Deliver, number_of}
use Rattle.node_rules.specs.NodeStep.{do_event, judge_in, partition_of}
use Rattle.node_rules.specs.Work.{Differs, Goes, Work}
use Rattle.cluster_rules.specs.Clusters.{Cluster, node_at}
use Rattle.cluster_rules.specs.ClusterStep.{step}
use Rattle.cluster_rules.specs.Links.{link_at}
use Rattle.cluster_laws.specs.Handed.{IsHanded}
use Rattle.cluster_laws.specs.Sound.{IsCluster}
use Rattle.page_protocol.specs.State.{Page}
use Rattle.page_protocol.specs.Steps.{Reached}
use Rattle.page_relation.specs.Relation.{IsPageOf}
use Rattle.page_relation.specs.Together.{IsParty, WaitsAsAsked}
use Rattle.page_relation.specs.Work.Events.{IsEntered}
use Rattle.page_relation.specs.Work.StepEnds.{start_of, Follows}

-- A grant comes to node n from the head of its link, and is taken there.
pub record GrantComes (c : Cluster) (e : Event) (n from : ℕ) (s : NodeState) (m : Message) (g : Grant) : Type 0 where
  pub cluster : IsCluster c
  pub parties : (b : ℕ) → AllByRecursion (IsParty c b n) (link_at c.links b n)
  pub asked : (t : TxId) → WaitsAsAsked c t (node_at c t.node)
  pub handed : IsHanded c e n s (Deliver from m)
  pub body : m.body ≡ body.Grant g
  pub judged : judge_in s.view (number_of s) from m.epoch (partition_of s.home.config m.body) ≡ verdict.Taken

-- It keeps the relation of each page, where the step goes on.
abbrev pub GrantIsKept : Type 0
GrantIsKept =
    (c : Cluster) (e : Event) (n p from : ℕ) (s : NodeState) (m : Message) (g : Grant) (w : Work) (blank : List ℕ) (a : Page) → GrantComes c e n from s m g
    → do_event c.disk (Deliver from m) (start_of c s) ≡ Goes w → p < c.config.pages → Reached blank a → IsEntered a → IsPageOf c p a → Follows p IsEntered a (step c e)

-- And it goes on: the page that is read for it doesn't differ.
abbrev pub GrantGoesOn : Type 0
GrantGoesOn =
    (c : Cluster) (e : Event) (n from : ℕ) (s : NodeState) (m : Message) (g : Grant) (blank : List ℕ) (a : Page) (q expected found : ℕ) → GrantComes c e n from s m g
    → g.page < c.config.pages → Reached blank a → IsEntered a → IsPageOf c g.page a → do_event c.disk (Deliver from m) (start_of c s) ≡ Differs q expected found → ⊥
