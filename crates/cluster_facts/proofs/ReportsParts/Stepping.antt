-- What a step of a node leaves of its tables and its view, and which reports it sends.
use Rattle.std.proofs.Common.{◌≡◌, refl, subst, ℕ, ◌<◌, not, Bool, true, false, [], ◌∷◌, length, Option, Some, None, is_some}
use Rattle.std.specs.List.{AllByRecursion}
use Rattle.pcl_base.specs.declared.reply.Reason.{Reason}
use Rattle.pcl_base.specs.declared.reply.Reason.TheVariants as reason
use Rattle.run_rules.specs.Disk.{Disk}
use Rattle.run_rules.specs.Views.{View}
use Rattle.node_rules.specs.InstallRule.{install_view}
use Rattle.node_rules.specs.NodeState.{NodeState, NodeEvent, Begin, Read, Write, Commit, Abort, Deliver, Evict, Flush, Install, Cut, Outgoing, table_at}
use Rattle.node_rules.specs.NodeStep.{Plan, plan_of, begin_work, do_event, unless_refused, nodestep}
use Rattle.node_rules.specs.Refusals.{refuse_if, may_install, refusal_in_view, refusal}
use Rattle.pcl_base.specs.declared.reply.Reply.TheVariants as reply
use Rattle.node_rules.specs.Work.{Work, Goes}
use Rattle.home_laws.proofs.Tests.{not_false}
use Rattle.step_laws.proofs.Outcomes.{On, on_so, on_more}
use Rattle.node_laws.proofs.Events.{not_refused}
use Rattle.cluster_laws.specs.Link.Orders.{is_report}
use Rattle.cluster_facts.proofs.ReportsParts.Events.{Going}
use Rattle.cluster_facts.proofs.ReportsParts.Flags.{TableGoesOn, heard}
use Rattle.cluster_facts.proofs.ReportsParts.Heard.{event_goes}
use Rattle.cluster_facts.proofs.ReportsParts.Done.{Done}
use Rattle.cluster_facts.proofs.ReportsParts.Installing.{Sending, IsInstalled, install_goes}

-- A step is refused, or is one of a node in a view that installs none, or installs a view.
pub data StepIs (n : NodeState) (ev : NodeEvent) (p : Plan) : Type 0 where
  step_refused : (r : Reason) → p.node ≡ n → p.sends ≡ [] → p.replies ≡ reply.Refused r ∷ [] → StepIs n ev p
  step_acts : ((w : View) → ev ≡ Install w → ⊥) → is_some n.view ≡ true → p.node.view ≡ n.view → ((q : ℕ) → TableGoesOn (heard n ev q) (table_at p.node q))
      → AllByRecursion (λ (o : Outgoing). is_report o.message.body ≡ false) p.sends → StepIs n ev p
  step_installs : (v : View) → ev ≡ Install v → may_install n n.view v ≡ true → p.node.view ≡ Some v → ((q : ℕ) → q < n.home.config.nodes → Done n v q (table_at p.node q))
      → Sending n v n.home.config.nodes p.sends → StepIs n ev p

module _ (n : NodeState) (d : Disk) (places : length n.tables ≡ n.home.config.nodes) where
  abbrev Is : NodeEvent → Work → Type 0
  Is ev w = StepIs n ev (plan_of w)

  inside : (further : Option Reason) → refuse_if (not (is_some n.view)) reason.NotInView further ≡ None → is_some n.view ≡ true
  inside further none = not_false (is_some n.view) (not_refused (not (is_some n.view)) reason.NotInView further none).0

  was_allowed : (b : Bool) (r : Reason) → refuse_if (not b) r None ≡ None → b ≡ true
  was_allowed true r e = refl
  was_allowed false r e = absurd (cc)

  plain : (ev : NodeEvent) → ((w : View) → ev ≡ Install w → ⊥) → is_some n.view ≡ true → On (Is ev) (do_event d ev (begin_work n d))
  plain ev other seen =
      on_more (Going n.view (heard n ev)) (Is ev) (do_event d ev (begin_work n d)) (λ w i. step_acts other seen i.view_is i.tables i.said) (event_goes n d ev other)

  event_is : (ev : NodeEvent) → refusal n ev ≡ None → On (Is ev) (do_event d ev (begin_work n d))
  unfolding do_event refusal
  event_is Begin e = plain Begin (λ w bad. absurd (cc)) (inside (refusal_in_view n Begin) e)
  event_is (Read t p) e = plain (Read t p) (λ w bad. absurd (cc)) (inside (refusal_in_view n (Read t p)) e)
  event_is (Write t p place bytes) e = plain (Write t p place bytes) (λ w bad. absurd (cc)) (inside (refusal_in_view n (Write t p place bytes)) e)
  event_is (Commit t) e = plain (Commit t) (λ w bad. absurd (cc)) (inside (refusal_in_view n (Commit t)) e)
  event_is (Abort t) e = plain (Abort t) (λ w bad. absurd (cc)) (inside (refusal_in_view n (Abort t)) e)
  event_is (Deliver from m) e = plain (Deliver from m) (λ w bad. absurd (cc)) (inside (refusal_in_view n (Deliver from m)) e)
  event_is (Evict p) e = plain (Evict p) (λ w bad. absurd (cc)) (inside (refusal_in_view n (Evict p)) e)
  event_is (Flush p) e = plain (Flush p) (λ w bad. absurd (cc)) (inside (refusal_in_view n (Flush p)) e)
  event_is Cut e = plain Cut (λ w bad. absurd (cc)) (inside (refusal_in_view n Cut) e)
  event_is (Install v) e =
      on_more (IsInstalled n v) (Is (Install v)) (install_view d v (begin_work n d))
      (λ w i. step_installs v refl (was_allowed (may_install n n.view v) reason.NoView e) i.view_is i.tables i.sending) (install_goes n v d places)

  step_is : (ev : NodeEvent) → On (StepIs n ev) (nodestep n ev d)
  unfolding nodestep
  step_is ev = on_so (Is ev) (StepIs n ev) (unless_refused (refusal n ev) d ev (begin_work n d)) plan_of (by (refusal n ev) refl) (λ w is. is)
    where
      by : (o : Option Reason) → refusal n ev ≡ o → On (Is ev) (unless_refused o d ev (begin_work n d))
      by (Some r) e = step_refused r refl refl refl
      by None e = event_is ev e

pub steps_are : (n : NodeState) (ev : NodeEvent) (d : Disk) (p : Plan) → length n.tables ≡ n.home.config.nodes → nodestep n ev d ≡ Goes p → StepIs n ev p
steps_are n ev d p places goes = subst (On (StepIs n ev)) goes (step_is n d places ev)
