-- What is at hand of a whole step of a node.
use Rattle.std.proofs.Common.{◌≡◌, subst, ℕ, ◌<◌, List, None}
use Rattle.std.specs.List.{AllByRecursion}
use Rattle.pcl_base.specs.Limits.{Sizes}
use Rattle.pcl_base.specs.declared.event.Event.{Event}
use Rattle.pcl_base.specs.declared.message.Message.{Message}
use Rattle.text_rules.specs.MessageBytes.{IsBody}
use Rattle.node_rules.specs.NodeState.{NodeState, NodeEvent, Deliver}
use Rattle.node_rules.specs.Work.{Work}
use Rattle.cluster_rules.specs.Clusters.{Cluster, stop_at}
use Rattle.cluster_rules.specs.ClusterStep.{left_of}
use Rattle.cluster_rules.specs.Links.{link_at}
use Rattle.cluster_laws.specs.Handed.{IsHanded}
use Rattle.cluster_laws.specs.Sound.{IsMember}
use Rattle.cluster_laws.proofs.Steps.{events_can_come_law, up_is_member_law}
use Rattle.page_protocol.specs.State.{Page}
use Rattle.page_protocol.specs.Steps.{here}
use Rattle.page_relation.specs.Relation.{IsPageOf}
use Rattle.page_relation.specs.Together.{IsParty}
use Rattle.page_relation.specs.Work.Events.{IsEntered, IsUnstopped}
use Rattle.page_relation.specs.Work.Landing.{Acts}
use Rattle.page_relation.specs.Work.StepEnds.{Follows}
use Rattle.page_relation.proofs.WorkParts.Started.{acting, at_head, deliver_is}
use Rattle.related_runs.specs.RunLaws.{IsOfRun}
use Rattle.whole_runs.specs.Act.Acted.{IsWholeStep}

-- the same state stands on
pub follows_itself : (p : ℕ) (a : Page) (d : Cluster) → IsEntered a → IsPageOf d p a → Follows p IsEntered a d
follows_itself p a d enters related = record { page = a; run = here; related = related; known = enters }

-- no stop ends it
pub unstopped : (c : Cluster) (e : Event) (n : ℕ) (s : NodeState) (ev : NodeEvent) (w : Work) → IsWholeStep c e n s ev w → IsUnstopped c n s ev
unstopped c e n s ev w whole x goes =
    let same : w ≡ x = (let one = whole.goes in cc) in subst (λ (k : Work). left_of n c.disk k.calls (stop_at c n) ≡ None) same whole.whole

module _ (blank : List ℕ) (c : Cluster) (e : Event) (n : ℕ) (s : NodeState) (ev : NodeEvent) (is : IsOfRun blank c) (h : IsHanded c e n s ev) where
  pub acts : Acts c n
  acts = acting c e n s ev is.related.cluster h

  pub member : IsMember c.config c.views n s
  member = (up_is_member_law c n s is.related.cluster h.up).1

  pub low_page : (k : ℕ) → k < s.home.config.pages → k < c.config.pages
  low_page k = subst (λ (d : Sizes). k < d.pages) member.config

module _ (blank : List ℕ) (c : Cluster) (e : Event) (n from : ℕ) (s : NodeState) (m : Message) (is : IsOfRun blank c) (h : IsHanded c e n s (Deliver from m)) where
  pub party : IsParty c from n m
  party =
      let found = deliver_is c e n s from m h.acts h.event in
      (subst (AllByRecursion (IsParty c from n)) (at_head m (link_at c.links from n) found.1) (is.related.parties from n)).0

  pub named : IsBody s.home.config m.body
  named = (events_can_come_law c e n s (Deliver from m) is.related.cluster h).1.body
