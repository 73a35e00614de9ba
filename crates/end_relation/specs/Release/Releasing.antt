-- A release that is taken, whole.
use Rattle.std.specs.Prelude.{◌≡◌, ℕ, ◌<◌, List}
use Rattle.std.specs.List.{AllByRecursion}
use Rattle.pcl_base.specs.declared.event.Event.{Event}
use Rattle.pcl_base.specs.declared.lock.Verdict.TheVariants as verdict
use Rattle.pcl_base.specs.declared.message.Body.TheVariants as body
use Rattle.pcl_base.specs.declared.message.Message.{Message}
use Rattle.pcl_base.specs.declared.message.Release.{Release}
use Rattle.node_rules.specs.NodeState.{NodeState, Deliver, number_of}
use Rattle.node_rules.specs.NodeStep.{partition_of, judge_in, do_event}
use Rattle.node_rules.specs.Work.{Work, Goes, Differs}
use Rattle.node_laws.proofs.Bases.{base_of}
use Rattle.cluster_rules.specs.Clusters.{Cluster}
use Rattle.cluster_rules.specs.ClusterStep.{step}
use Rattle.cluster_rules.specs.Links.{link_at}
use Rattle.cluster_laws.specs.Handed.{IsHanded}
use Rattle.cluster_laws.specs.Sound.{IsCluster}
use Rattle.page_protocol.specs.State.{Page}
use Rattle.page_protocol.specs.Steps.{Reached}
use Rattle.page_relation.specs.Relation.{IsPageOf}
use Rattle.page_relation.specs.Together.{IsParty}
use Rattle.page_relation.specs.Work.Events.{IsEntered, IsUnstopped}
use Rattle.page_relation.specs.Work.StepEnds.{start_of, Follows}
use Rattle.page_relation.specs.Work.Taken.{taken_of}
use Rattle.end_relation.specs.Release.Midway.{IsMidway, SettleKeeps, SettleGoes}

-- A release keeps the relation of each page, where settling its page does.
abbrev pub ReleaseIsKept : Type 0
ReleaseIsKept =
    (c : Cluster) (e : Event) (n p from : ℕ) (s : NodeState) (m : Message) (r : Release) (x : Work) (blank : List ℕ) (a : Page) → IsCluster c
    → ((k l : ℕ) → AllByRecursion (IsParty c k l) (link_at c.links k l)) → IsHanded c e n s (Deliver from m) → m.body ≡ body.Release r
    → judge_in s.view (number_of s) from m.epoch (partition_of s.home.config m.body) ≡ verdict.Taken
    → do_event c.disk (Deliver from m) (start_of c s) ≡ Goes x → IsUnstopped c n s (Deliver from m) → p < c.config.pages
    → IsMidway (base_of s) c e n (taken_of c s) → SettleKeeps (base_of s) c e n p r.page → Reached blank a → IsEntered a → IsPageOf c p a → Follows p IsEntered a (step c e)

-- And it meets no page that differs, where settling its page doesn't.
abbrev pub NoReleaseDiffers : Type 0
NoReleaseDiffers =
    (c : Cluster) (e : Event) (n from : ℕ) (s : NodeState) (m : Message) (r : Release) (blank : List ℕ) (a : Page) → IsCluster c
    → ((k l : ℕ) → AllByRecursion (IsParty c k l) (link_at c.links k l)) → IsHanded c e n s (Deliver from m) → m.body ≡ body.Release r
    → judge_in s.view (number_of s) from m.epoch (partition_of s.home.config m.body) ≡ verdict.Taken → r.page < c.config.pages
    → IsMidway (base_of s) c e n (taken_of c s) → SettleGoes (base_of s) c e n r.page → Reached blank a → IsEntered a → IsPageOf c r.page a
    → (q x y : ℕ) → do_event c.disk (Deliver from m) (start_of c s) ≡ Differs q x y → ⊥
