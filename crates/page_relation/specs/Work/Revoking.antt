-- A revocation that is taken, whole: the right is spent and answered, or there is none.
use Rattle.std.specs.Prelude.{◌≡◌, ℕ, ◌≤◌, List, ◌∷◌}
use Rattle.std.specs.List.{AllByRecursion}
use Rattle.pcl_base.specs.declared.event.Event.{Event}
use Rattle.pcl_base.specs.declared.lock.Verdict.TheVariants as verdict
use Rattle.pcl_base.specs.declared.message.Body.TheVariants as body
use Rattle.pcl_base.specs.declared.message.Message.{Message}
use Rattle.node_rules.specs.NodeState.{NodeState, Deliver, number_of, partition}
use Rattle.node_rules.specs.NodeStep.{partition_of, judge_in}
use Rattle.cluster_rules.specs.Clusters.{Cluster}
use Rattle.cluster_rules.specs.ClusterStep.{step}
use Rattle.cluster_rules.specs.Links.{link_at}
use Rattle.cluster_laws.specs.Handed.{IsHanded}
use Rattle.cluster_laws.specs.Sound.{IsCluster}
use Rattle.cluster_laws.specs.Era.Eras.{era_at}
use Rattle.cluster_laws.specs.Link.Coming.{coming}
use Rattle.cluster_laws.specs.Link.EpochLaws.{IsInOrder}
use Rattle.page_protocol.specs.Authority.{HaveUsed}
use Rattle.page_protocol.specs.State.{Page}
use Rattle.page_relation.specs.Relation.{IsPageOf}
use Rattle.page_relation.specs.Together.{IsParty}
use Rattle.page_relation.specs.Work.Events.{IsEntered}
use Rattle.page_relation.specs.Work.StepEnds.{Follows}

-- What comes back to the sender of a message and counts there is of no earlier era than that message.
abbrev pub BackIsNotEarlier : Type 0
BackIsNotEarlier =
    (c : Cluster) (p a b : ℕ) (m : Message) (rest : List Message) → IsCluster c → IsInOrder c → link_at c.links a b ≡ m ∷ rest
    → AllByRecursion (λ (k : Message). era_at c (partition c.config p) m.epoch ≤ era_at c (partition c.config p) k.epoch) (coming c p b a)

-- A revocation keeps the relation: of its page by the machine's revocation where the node has the right, each of whose
-- locks of the page was used, and else with the same state.
abbrev pub RevokeIsKept : Type 0
RevokeIsKept =
    (c : Cluster) (e : Event) (n p page from : ℕ) (s : NodeState) (m : Message) (a : Page) → IsCluster c → IsInOrder c → IsParty c from n m
    → IsHanded c e n s (Deliver from m) → m.body ≡ body.Revoke page
    → judge_in s.view (number_of s) from m.epoch (partition_of s.home.config m.body) ≡ verdict.Taken → HaveUsed a n → IsEntered a → IsPageOf c p a
    → Follows p IsEntered a (step c e)
