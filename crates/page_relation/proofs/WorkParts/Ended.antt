-- A step as it ends.
use Rattle.std.proofs.Common.{◌≡◌, refl, ap, sym, subst, ◌∙◌, ℕ, List, [], ◌∷◌, Option, Some, None}
use Rattle.pcl_base.specs.declared.event.Event.{Event}
use Rattle.pcl_base.specs.declared.reply.Reply.TheVariants as reply
use Rattle.run_rules.specs.Disk.{Disk}
use Rattle.node_rules.specs.DiskCalls.{Stop, Left, stopped_in}
use Rattle.node_rules.specs.NodeState.{NodeState, NodeEvent}
use Rattle.node_rules.specs.NodeStep.{plan_of, do_event, nodestep, unless_refused}
use Rattle.node_rules.specs.Refusals.{refusal}
use Rattle.node_rules.specs.Work.{Work, Outcome, Goes, and_so}
use Rattle.cluster_rules.specs.Clusters.{Cluster, stop_at}
use Rattle.cluster_rules.specs.ClusterStep.{left_of, made_or_halted, after_plan, node_step, step}
use Rattle.cluster_laws.specs.Handed.{IsHanded}
use Rattle.cluster_laws.specs.Sound.{IsCluster}
use Rattle.cluster_laws.proofs.Cases.{handed_is_stepped_law}
use Rattle.page_laws.proofs.MomentParts.Entries.{refused_adds_nothing_law}
use Rattle.page_protocol.specs.State.{Page}
use Rattle.page_protocol.specs.Steps.{Reached}
use Rattle.page_relation.specs.Relation.{IsPageOf}
use Rattle.page_relation.specs.Work.Keeping.{Keeps}
use Rattle.page_relation.specs.Work.Landing.{land}
use Rattle.page_relation.specs.Work.StepEnds.{start_of, EndIsLanded, Follows, RefusedIsKept}
use Rattle.page_relation.proofs.WorkParts.Started.{begun_is_related, start_is_related_law, quiet_told}

-- a step of a node whose work is this, and which no stop ends
pub goes_landed : (c : Cluster) (e : Event) (n : ℕ) (s : NodeState) (ev : NodeEvent) (w : Work) → IsHanded c e n s ev
    → unless_refused (refusal s ev) c.disk ev (start_of c s) ≡ Goes w → left_of n c.disk w.calls (stop_at c n) ≡ None → step c e ≡ land c e n w
unfolding land node_step nodestep
goes_landed c e n s ev w h goes whole =
    handed_is_stepped_law c e n s ev h
    ∙ ap (λ (o : Outcome Work). after_plan e n c (and_so o plan_of)) goes
    ∙ ap (λ (o : Option Left). made_or_halted e n (plan_of w) o c) whole

pub end_is_landed_law : EndIsLanded
end_is_landed_law c e n s ev w h free goes whole =
    goes_landed c e n s ev w h (ap (λ r. unless_refused r c.disk ev (start_of c s)) free ∙ goes) whole

-- a step whose operation keeps the relation
pub step_is_kept : (c : Cluster) (e : Event) (n p : ℕ) (s : NodeState) (ev : NodeEvent) (w : Work) (blank : List ℕ) (a : Page) (Before After : Work → Page → Type 0)
    → IsCluster c → IsHanded c e n s ev → refusal s ev ≡ None → do_event c.disk ev (start_of c s) ≡ Goes w → left_of n c.disk w.calls (stop_at c n) ≡ None
    → Keeps c e n p Before (do_event c.disk ev) After → Before (start_of c s) a → Reached blank a → IsPageOf c p a → Follows p (After w) a (step c e)
step_is_kept c e n p s ev w blank a Before After i h free goes whole keeps known reached is =
    let led = keeps blank (start_of c s) w a reached (start_is_related_law c e n p s ev a i h is) known goes in
    record { page = led.page; run = led.run; related = subst (λ (d : Cluster). IsPageOf d p led.page) (sym (end_is_landed_law c e n s ev w h free goes whole)) led.related; known = led.known }

-- a step without calls is whole
pub no_calls : (n : ℕ) (d : Disk) (o : Option Stop) → left_of n d [] o ≡ None
unfolding stopped_in
no_calls n d None = refl
no_calls n d (Some s) = refl

pub refused_is_kept_law : RefusedIsKept
refused_is_kept_law c e n p s ev r a i h refused is =
    subst (λ (d : Cluster). IsPageOf d p a)
    (sym
    (goes_landed c e n s ev (record (start_of c s) { replies = reply.Refused r ∷ [] }) h (ap (λ o. unless_refused o c.disk ev (start_of c s)) refused)
    (no_calls n c.disk (stop_at c n))))
    (begun_is_related c e n p s ev i h (reply.Refused r ∷ []) a
    (quiet_told c.config p c.trace _ (refused_adds_nothing_law c.trace e r [])) is)
