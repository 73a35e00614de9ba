-- The step of a report that is delivered, from what its parts say.
use Rattle.std.proofs.Common.{arith, ◌≡◌, ◌<◌, ◌++◌, refl, ap, sym, subst, ◌∙◌, ℕ, List, [], ◌∷◌, Option, Some, None, Result, Ok, Err}
use Rattle.std.specs.Prelude.{IfErr, OnErr, OnOk}
use Rattle.pcl_base.specs.declared.lock.Verdict.{Verdict}
use Rattle.pcl_base.specs.declared.lock.Verdict.TheVariants as verdict
use Rattle.pcl_base.specs.declared.message.Body.{Body}
use Rattle.pcl_base.specs.declared.message.Body.TheVariants as body
use Rattle.pcl_base.specs.declared.message.Message.{Message}
use Rattle.pcl_base.specs.declared.message.Report.{Report}
use Rattle.pcl_base.specs.declared.reply.Reply.{Reply}
use Rattle.pcl_base.specs.declared.reply.Reply.TheVariants as reply
use Rattle.pcl_base.specs.declared.trace.Call.{Call}
use Rattle.pcl_base.specs.declared.trace.Call.TheVariants as call
use Rattle.run_rules.specs.Disk.{Disk}
use Rattle.disk_model.specs.Disk.{HasSizes}
use Rattle.redo_log.specs.Told.{NoneFails}
use Rattle.node_rules.specs.DiskCalls.{DiskCall}
use Rattle.node_rules.specs.InstallRule.{on_report}
use Rattle.node_rules.specs.NodeState.{NodeState, Deliver, number_of}
use Rattle.node_rules.specs.NodeStep.{begin_work, by_verdict, do_event, judge_in, partition_of, take_message}
use Rattle.node_rules.specs.Refusals.{refusal}
use Rattle.node_rules.specs.Work.{Work, Goes, reply}
use Rattle.node_parts.specs.Comes.{Comes, work_of}
use Rattle.node_parts.specs.Outputs.{OutputsView}
use Rattle.node_parts.specs.State.{PartsView, AreParts, node_of}
use Rattle.node_parts.specs.declared.fault.StepFault.{StepFault}
use Rattle.node_parts.specs.declared.fault.StepFault.TheVariants.{NoMemory}
use Rattle.page_owner.specs.Carry.{HasSame, SameNode, halted_by}
use Rattle.page_owner.specs.Writes.{after_calls}
use Rattle.own_steps.specs.Calls.{IsWriteFault, LeavesCalls as OwnLeaves}
use Rattle.install_steps.specs.Calls.{IsReportFault, LeavesCalls, report_calls}
use Rattle.install_steps.proofs.Calling.{has_made, reports_make}
use Rattle.step_laws.proofs.Outcomes.{On}
use Rattle.node_core.specs.Steps.{IsStep, IsStepFault, Seen}
use Rattle.node_core.proofs.BrokenOff.{broken_ended, broken_ends, broken_others, report_fault, report_forceless, report_names}
use Rattle.node_core.proofs.Fates.{IsQuiet, fault_as, write_names, write_quiet, write_step}
use Rattle.node_core.proofs.InstallParts.{on_made}
use Rattle.node_core.proofs.OwnParts.{Calm, Counted, part}
use Rattle.node_core.proofs.OwnerCalls.{Same}
use Rattle.node_core.proofs.Running.{names_as}
use Rattle.node_core.proofs.Stepping.{step_of}

-- how a node judges a message
abbrev pub judged : NodeState → ℕ → Message → Verdict
judged n from msg = judge_in n.view (number_of n) from msg.epoch (partition_of n.home.config msg.body)

-- what its delivery comes to by that
module _ (d : Disk) (from : ℕ) (msg : Message) (w : Work) where
  by_judging : (x : Verdict) → judged w.node from msg ≡ x → do_event d (Deliver from msg) w ≡ by_verdict x d from msg.body w
  unfolding do_event take_message
  by_judging x is = ap (λ (k : Verdict). by_verdict k d from msg.body w) is

  pub is_taken : (r : Report) → msg.body ≡ body.Report r → judged w.node from msg ≡ verdict.Taken → do_event d (Deliver from msg) w ≡ on_report d from r (reply reply.Taken w)
  is_taken r is taken = by_judging verdict.Taken taken ∙ ap (λ (b : Body). by_verdict verdict.Taken d from b w) is

  pub is_held : judged w.node from msg ≡ verdict.Held → do_event d (Deliver from msg) w ≡ Goes (reply reply.Held w)
  is_held held = by_judging verdict.Held held

  pub is_dropped : judged w.node from msg ≡ verdict.Dropped → do_event d (Deliver from msg) w ≡ Goes (reply reply.Dropped w)
  is_dropped dropped = by_judging verdict.Dropped dropped

-- a report that is held or dropped: it is answered, and changes nothing
module _ (v : PartsView) (out after : OutputsView) (old : Seen) (r : Result (Unit {0}) StepFault) (parts : AreParts v) (replies : out.replies ≡ []) (sends : out.sends ≡ []) where
  abbrev here : NodeState
  here = node_of v

  wants : (r : Result (Unit {0}) StepFault) → IfErr r (λ e. e ≡ NoMemory) → IfErr r IsWriteFault
  wants (Ok x) fault = tt
  wants (Err e) fault = subst IsWriteFault (sym fault) tt

  alone : (r : Result (Unit {0}) StepFault) → IfErr r (λ e. e ≡ NoMemory) → OwnLeaves (number_of here) r [] old.told old.told
  alone (Ok x) fault = refl
  alone (Err e) fault = subst (λ z. OwnLeaves {T = Unit {0}} (number_of here) (Err z) [] old.told old.told) (sym fault) refl

  on_err : {P : Type 0} → OnErr r P → r ≡ Err NoMemory → P
  on_err {P = P} says is = subst (λ (z : Result (Unit {0}) StepFault). OnErr z P) is says

  halts_not : (r : Result (Unit {0}) StepFault) → IfErr r (λ e. e ≡ NoMemory) → (k : Call) → halted_by r ≡ Some k → ⊥
  halts_not (Ok x) fault k e = absurd (cc)
  halts_not (Err f) fault k e =
      let nobody : None ≡ Some k = subst (λ (z : StepFault). halted_by {X = Unit {0}} (Err z) ≡ Some k) fault e in
      absurd (cc)

  answer_comes : (r : Result (Unit {0}) StepFault) (x : Reply) (ps : List (List ℕ)) → IfErr r (λ e. e ≡ NoMemory) → OnOk r (after.replies ≡ out.replies ++ x ∷ []) → after.sends ≡ out.sends
      → Comes (Goes (reply x (work_of here ps [] out))) r (work_of here ps [] after)
  answer_comes (Ok z) x ps fault said sent = λ i. record { node = here; pages = ps; calls = []; replies = sym said i; sends = sym sent i }
  answer_comes (Err e) x ps fault said sent = subst (λ (z : StepFault). Comes {T = Unit {0}} (Goes (reply x (work_of here ps [] out))) (Err z) (work_of here ps [] after)) (sym fault) tt

  pub answered_step : (from : ℕ) (msg : Message) (x : Reply) → refusal here (Deliver from msg) ≡ None → ((d : Disk) (w : Work) → w.node ≡ here → do_event d (Deliver from msg) w ≡ Goes (reply x w))
      → OnOk r (after.replies ≡ out.replies ++ x ∷ []) → after.sends ≡ out.sends → OnErr r (HasSame out after) → IfErr r (λ e. e ≡ NoMemory) → HasSizes here.home.config old.told.pages old.told.logs old.rooms
      → IsStep here (Deliver from msg) out old r here after old
  answered_step from msg x none rule said sent lists fault sizes =
      part v v out after old old r parts replies sends (Deliver from msg) [] (λ d. d.pages) tt none
      (λ d pages. subst (λ o. Comes o r (work_of here d.pages [] after)) (sym (rule d (work_of here d.pages [] out) refl)) (answer_comes r x d.pages fault said sent)) (alone r fault)
      (λ d. subst (On (Same [])) (sym (rule d (begin_work here d) refl)) refl) (write_names r (wants r fault)) (λ is. refl) (on_err lists)
      (record { config = refl; node = refl; born = refl }) (fault_as IsWriteFault IsStepFault write_step r (wants r fault)) sizes (λ l is. is)
      (λ l is. write_quiet r (wants r fault)) (λ k. omega arith, λ k e. absurd (halts_not r fault k e))

-- a report that is taken
module _ (v later : PartsView) (out after : OutputsView) (old new : Seen) (r : Result (Unit {0}) StepFault) (parts : AreParts v) (replies : out.replies ≡ []) (sends : out.sends ≡ []) where
  abbrev n : NodeState
  n = node_of v

  abbrev m : NodeState
  m = node_of later

  -- none of its reading calls fails
  abbrev Halts : Type 0
  Halts = (l : List (Option ℕ)) (k : Call) → NoneFails old.failing v.me l → halted_by r ≡ Some k → k ≡ call.Write

  not_read : call.Read ≡ call.Write → ⊥
  not_read e = absurd (cc)

  not_log : call.Log ≡ call.Write → ⊥
  not_log e = absurd (cc)

  quiet_as : Halts → (l : List (Option ℕ)) → NoneFails old.failing v.me l → IsQuiet r
  quiet_as halts l is = (λ e. not_read (halts l call.Read is e), λ e. not_log (halts l call.Log is e))

  pub taken_step : (from : ℕ) (msg : Message) (q : Report) → msg.body ≡ body.Report q → judged n from msg ≡ verdict.Taken → refusal n (Deliver from msg) ≡ None → q.partition < n.home.config.nodes
      → ((d : Disk) (cs : List DiskCall) → old.told.pages ≡ Some d.pages → old.told.logs ≡ Some d.logs
      → Comes (on_report d from q (reply reply.Taken (work_of n d.pages cs out))) r (work_of m (after_calls d.pages (report_calls d from q n)) (cs ++ report_calls d from q n) after))
      → ((d : Disk) → old.told.pages ≡ Some d.pages → old.told.logs ≡ Some d.logs → LeavesCalls v.me r (report_calls d from q n) old.told new.told)
      → (r ≡ Err NoMemory → later ≡ v) → (r ≡ Err NoMemory → HasSame out after) → (r ≡ Err NoMemory → new.told ≡ old.told) → SameNode v.home later.home → IfErr r IsReportFault
      → HasSizes n.home.config new.told.pages new.told.logs new.rooms → Calm v later out after old new r parts replies sends → Halts → Counted v later out after old new r parts replies sends
      → IsStep n (Deliver from msg) out old r m after new
  taken_step from msg q is taken none low comes left node lists told kept fault sizes calm halts counted =
      step_of v later out after old new r parts replies sends (Deliver from msg) (λ d. report_calls d from q n) (λ d. after_calls d.pages (report_calls d from q n)) none
      (λ d pages logs.
      subst (λ o. Comes o r (work_of m (after_calls d.pages (report_calls d from q n)) (report_calls d from q n) after)) (sym (is_taken d from msg (work_of n d.pages [] out) q is taken)) (comes d [] pages logs))
      (λ d pages logs told. broken_ended (number_of n) (report_calls d from q n) old.told new.told d old.told.stops told (report_forceless d from q n) r (mine d pages logs) (report_names r fault))
      (λ d l pages logs is. broken_ends (number_of n) (report_calls d from q n) old.told new.told r (mine d pages logs) (quiet_as halts l is))
      (λ d.
      subst (On (Same (report_calls d from q n))) (sym (is_taken d from msg (begin_work n d) q is taken))
      (on_made (report_calls d from q n) (on_report d from q (reply reply.Taken (begin_work n d))) (has_made _ _ (reports_make d from q n (reply reply.Taken (begin_work n d)) parts.node.places low refl refl))))
      (λ d stops l logs armed is. names_as (number_of n) d stops r (report_calls d from q n) (report_forceless d from q n) (report_names r fault))
      (λ is. (ap node_of (node is), lists is, told is)) (kept.config, kept.node) (fault_as IsReportFault IsStepFault report_fault r fault) sizes
      (λ d pages logs. broken_others (number_of n) (report_calls d from q n) old.told new.told r (mine d pages logs)) calm (quiet_as halts) counted.0 counted.1
    where
      mine : (d : Disk) → old.told.pages ≡ Some d.pages → old.told.logs ≡ Some d.logs → LeavesCalls (number_of n) r (report_calls d from q n) old.told new.told
      mine d pages logs = subst (λ k. LeavesCalls k r (report_calls d from q n) old.told new.told) parts.number (left d pages logs)
