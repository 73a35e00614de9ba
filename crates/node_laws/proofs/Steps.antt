-- A step of a sound node leaves a sound node, sends messages of the grammar, and writes pages of the
-- database.
use Rattle.std.proofs.Common.{◌≡◌, refl, subst, ℕ, not, true, Option, Some, None, is_some}
use Rattle.std.specs.List.{AllByRecursion}
use Rattle.pcl_base.specs.Limits.{Sizes}
use Rattle.pcl_base.specs.declared.reply.Reason.{Reason}
use Rattle.pcl_base.specs.declared.reply.Reason.TheVariants as reason
use Rattle.pcl_base.specs.declared.reply.Reply.TheVariants as reply
use Rattle.run_rules.specs.Disk.{Disk}
use Rattle.run_rules.specs.Views.{View}
use Rattle.node_rules.specs.NodeState.{NodeState, NodeEvent, Begin, Read, Write, Commit, Abort, Deliver, Evict, Flush, Install, Cut, number_of}
use Rattle.node_rules.specs.Work.{Work}
use Rattle.node_rules.specs.NodeStep.{Plan, plan_of, begin_work, do_event, unless_refused, nodestep}
use Rattle.node_rules.specs.Refusals.{refuse_if, may_install, refusal, refusal_in_view}
use Rattle.home_laws.proofs.Tests.{not_false}
use Rattle.step_laws.proofs.Outcomes.{On, on_so, on_more}
use Rattle.node_laws.specs.Nodes.{IsSound, CanCome, DiskFits, IsSend, IsCall}
use Rattle.node_laws.specs.Laws.{IsStep, StepsKeepSound, StepsKeepNumbers, SendsAreMessages, SendsHaveEpoch, CallsFit}
use Rattle.node_laws.proofs.Works.{IsGood}
use Rattle.node_laws.proofs.Bases.{base_of, IsDone, answered_done}
use Rattle.node_laws.proofs.Events.{not_refused, begins_done, deliver_done, evict_done, flush_done, cut_done, commit_done, abort_done, read_done, write_done, done_in_view}
use Rattle.node_laws.proofs.Begins.{install_done}

installs_done : (n : NodeState) (d : Disk) → IsSound n → DiskFits n.home.config d → (v : View) → CanCome n (Install v) → may_install n n.view v ≡ true
    → On (IsDone n.home.config (number_of n)) (do_event d (Install v) (begin_work n d))
unfolding do_event
installs_done n d sound fits v can may = install_done n d v sound can fits may

-- what a plan leaves
record IsPlanned (c : Sizes) (me : ℕ) (p : Plan) : Type 0 where
  sound : IsSound p.node
  config : p.node.home.config ≡ c
  number : number_of p.node ≡ me
  sends : AllByRecursion (IsSend c me) p.sends
  epochs : AllByRecursion (λ o. o.message.epoch ≡ p.node.epoch) p.sends
  calls : AllByRecursion (IsCall c) p.calls

-- an event that isn't refused at a node in a view
in_view : (n : NodeState) (further : Option Reason) → refuse_if (not (is_some n.view)) reason.NotInView further ≡ None → (v : View) × (n.view ≡ Some v) × (further ≡ None)
in_view n further none = by n.view refl none
  where
    by : (o : Option View) → n.view ≡ o → refuse_if (not (is_some o)) reason.NotInView further ≡ None → (v : View) × (n.view ≡ Some v) × (further ≡ None)
    by None e f = absurd (cc)
    by (Some v) e f = (v, e, f)

module _ (n : NodeState) (d : Disk) (sound : IsSound n) (fits : DiskFits n.home.config d) where
  abbrev Done : Work → Type 0
  Done w = IsDone n.home.config (number_of n) w

  event_done : (event : NodeEvent) → CanCome n event → refusal n event ≡ None → On Done (do_event d event (begin_work n d))
  unfolding refusal
  event_done Begin can none =
      let v = in_view n (refusal_in_view n Begin) none in
      on_more (IsGood (base_of n)) Done (do_event d Begin (begin_work n d)) (done_in_view n d sound fits v.0 v.1) (begins_done n d sound fits v.0 v.1 v.2)
  event_done (Read t p) can none =
      let v = in_view n (refusal_in_view n (Read t p)) none in
      on_more (IsGood (base_of n)) Done (do_event d (Read t p) (begin_work n d)) (done_in_view n d sound fits v.0 v.1) (read_done n d sound fits v.0 v.1 t p v.2)
  event_done (Write t p place bytes) can none =
      let v = in_view n (refusal_in_view n (Write t p place bytes)) none in
      on_more (IsGood (base_of n)) Done (do_event d (Write t p place bytes) (begin_work n d)) (done_in_view n d sound fits v.0 v.1) (write_done n d sound fits v.0 v.1 t p place bytes v.2)
  event_done (Commit t) can none =
      let v = in_view n (refusal_in_view n (Commit t)) none in
      on_more (IsGood (base_of n)) Done (do_event d (Commit t) (begin_work n d)) (done_in_view n d sound fits v.0 v.1) (commit_done n d sound fits v.0 v.1 t v.2)
  event_done (Abort t) can none =
      let v = in_view n (refusal_in_view n (Abort t)) none in
      on_more (IsGood (base_of n)) Done (do_event d (Abort t) (begin_work n d)) (done_in_view n d sound fits v.0 v.1) (abort_done n d sound fits v.0 v.1 t v.2)
  event_done (Deliver from m) can none =
      let v = in_view n (refusal_in_view n (Deliver from m)) none in
      on_more (IsGood (base_of n)) Done (do_event d (Deliver from m) (begin_work n d)) (done_in_view n d sound fits v.0 v.1) (deliver_done n d sound fits v.0 v.1 from m can.0 can.1)
  event_done (Evict p) can none =
      let v = in_view n (refusal_in_view n (Evict p)) none in
      on_more (IsGood (base_of n)) Done (do_event d (Evict p) (begin_work n d)) (done_in_view n d sound fits v.0 v.1) (evict_done n d sound fits v.0 v.1 p v.2)
  event_done (Flush p) can none =
      let v = in_view n (refusal_in_view n (Flush p)) none in
      on_more (IsGood (base_of n)) Done (do_event d (Flush p) (begin_work n d)) (done_in_view n d sound fits v.0 v.1) (flush_done n d sound fits v.0 v.1 p)
  event_done (Install v) can none =
      installs_done n d sound fits v can (not_false (may_install n n.view v) (not_refused (not (may_install n n.view v)) reason.NoView None none).0)
  event_done Cut can none =
      let v = in_view n (refusal_in_view n Cut) none in
      on_more (IsGood (base_of n)) Done (do_event d Cut (begin_work n d)) (done_in_view n d sound fits v.0 v.1) (cut_done n d sound fits v.0 v.1)

  step_done : (event : NodeEvent) → CanCome n event → On (λ (p : Plan). IsPlanned n.home.config (number_of n) p) (nodestep n event d)
  unfolding nodestep
  step_done event can =
      on_so Done (λ (p : Plan). IsPlanned n.home.config (number_of n) p) (unless_refused (refusal n event) d event (begin_work n d)) plan_of (by (refusal n event) refl)
      (λ w done. record { sound = done.sound; config = done.config; number = done.number; sends = done.sends; epochs = done.epochs; calls = done.calls })
    where
      by : (o : Option Reason) → refusal n event ≡ o → On Done (unless_refused o d event (begin_work n d))
      by (Some r) e = answered_done n d (reply.Refused r) sound
      by None e = event_done event can e

planned : (n : NodeState) (event : NodeEvent) (d : Disk) (p : Plan) → IsStep n event d p → IsPlanned n.home.config (number_of n) p
planned n event d p step = subst (On (λ (p : Plan). IsPlanned n.home.config (number_of n) p)) step.goes (step_done n d step.sound step.fits event step.can)

pub steps_keep_sound_law : StepsKeepSound
steps_keep_sound_law n event d p step = (planned n event d p step).sound

pub steps_keep_numbers_law : StepsKeepNumbers
steps_keep_numbers_law n event d p step = let is = planned n event d p step in (is.config, is.number)

pub sends_are_messages_law : SendsAreMessages
sends_are_messages_law n event d p step = (planned n event d p step).sends

pub sends_have_epoch_law : SendsHaveEpoch
sends_have_epoch_law n event d p step = (planned n event d p step).epochs

pub calls_fit_law : CallsFit
calls_fit_law n event d p step = (planned n event d p step).calls
