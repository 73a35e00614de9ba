-- A node in no view has no right, through every step.
use Rattle.std.proofs.Common.{◌≡◌, refl, sym, ap, subst, ◌∙◌, [], Option, Some, None}
use Rattle.std.specs.Prelude.{IfSome}
use Rattle.node_rules.specs.NodeState.{NodeState, NodeEvent, first_node, start_node}
use Rattle.node_rules.specs.NodeStep.{Plan}
use Rattle.node_rules.specs.Shelf.{right_on}
use Rattle.cluster_rules.specs.Clusters.{opening, node_at}
use Rattle.cluster_rules.specs.ClusterStep.{step}
use Rattle.cluster_laws.proofs.Lists.{look_counted}
use Rattle.cluster_laws.proofs.Steps.{up_is_member_law}
use Rattle.cluster_laws.specs.Link.StepLaws.{IsPlanned, IsNodeStep, node_stays, node_acts, node_lost, node_starts}
use Rattle.cluster_laws.proofs.LinkParts.Nodes.{nodes_step_law}
use Rattle.cluster_facts.specs.Reports.Unviewed.{NoRightUnviewed, OpeningHasNoRights, StepsKeepUnviewed, UnviewedHaveNoRight}
use Rattle.cluster_facts.proofs.ReportsParts.Stepping.{StepIs, step_refused, step_acts, step_installs, steps_are}

pub steps_keep_unviewed_law : StepsKeepUnviewed
unfolding start_node
steps_keep_unviewed_law c e i none n = by (nodes_step_law c e n i)
  where
    acts : (s : NodeState) (ev : NodeEvent) (p : Plan) → IsPlanned c e n s ev p → NoRightUnviewed p.node
    acts s ev p planned = λ unseen. of unseen (steps_are s ev c.disk p (up_is_member_law c n s i planned.handed.up).1.sound.places planned.goes)
      where
        was : NoRightUnviewed s
        was = subst (λ (o : Option NodeState). IfSome o NoRightUnviewed) planned.handed.up (none n)

        of : p.node.view ≡ None → StepIs s ev p → p.node.home.shelf ≡ []
        of unseen (step_refused r same sends replies) = ap (λ (x : NodeState). x.home.shelf) same ∙ was (sym (ap (λ (x : NodeState). x.view) same) ∙ unseen)
        of unseen (step_acts other seen view tables said) = let bad : s.view ≡ None = sym view ∙ unseen in let there = seen in absurd (cc)
        of unseen (step_installs v is may view tables sending) = let bad : Some v ≡ None = sym view ∙ unseen in absurd (cc)

    by : IsNodeStep c e n (node_at (step c e) n) → IfSome (node_at (step c e) n) NoRightUnviewed
    by (node_stays same) = subst (λ (o : Option NodeState). IfSome o NoRightUnviewed) (sym same) (none n)
    by (node_acts s ev p planned now) = subst (λ (o : Option NodeState). IfSome o NoRightUnviewed) (sym now) (acts s ev p planned)
    by (node_lost same) = subst (λ (o : Option NodeState). IfSome o NoRightUnviewed) (sym same) tt
    by (node_starts same down) = subst (λ (o : Option NodeState). IfSome o NoRightUnviewed) (sym same) (λ unseen. refl)

-- in the opening cluster each node is in a view
pub opening_has_no_rights_law : OpeningHasNoRights
unfolding opening first_node
opening_has_no_rights_law c n =
    look_counted (λ j (o : Option NodeState). IfSome o NoRightUnviewed) None (λ k. Some (first_node c k)) c.nodes 0 n (λ j low. λ unseen. refl) (λ j. tt)

pub unviewed_have_no_right_law : UnviewedHaveNoRight
unfolding right_on
unviewed_have_no_right_law c m p s none up unseen = ap (λ rs. right_on rs p) (subst (λ (o : Option NodeState). IfSome o NoRightUnviewed) up (none m) unseen)
