-- The steps of a node's own events, from what the parts say of them.
use Rattle.std.proofs.Common.{◌≡◌, ◌≢◌, ◌≤◌, ◌++◌, ◌==◌, refl, sym, subst, ℕ, Bool, true, false, not, List, [], Option, Some, None, is_some, Result, Ok, Err}
use Rattle.std.specs.Prelude.{IfErr}
use Rattle.pcl_base.specs.Faults.{Rose}
use Rattle.pcl_base.specs.declared.reply.Reply.TheVariants as reply
use Rattle.pcl_base.specs.declared.reply.Reason.TheVariants as reason
use Rattle.pcl_base.specs.declared.trace.Call.{Call}
use Rattle.pcl_base.specs.declared.trace.Call.TheVariants as call
use Rattle.pcl_base.specs.declared.tx.TxId.{TxId}
use Rattle.run_rules.specs.Disk.{Disk}
use Rattle.disk_model.specs.Disk.{HasSizes}
use Rattle.redo_log.specs.Told.{NoneFails}
use Rattle.node_rules.specs.AccessRule.{Access}
use Rattle.node_rules.specs.DiskCalls.{DiskCall}
use Rattle.node_rules.specs.EndRule.{abort}
use Rattle.node_rules.specs.NodeState.{NodeState, NodeEvent, Read, Write, Abort, number_of, page_owner}
use Rattle.node_rules.specs.NodeStep.{begin_work, do_event}
use Rattle.node_rules.specs.OwnerRule.{do_access, end_work}
use Rattle.node_rules.specs.Refusals.{refusal, refusal_in_view}
use Rattle.node_rules.specs.Work.{Work, work_of_home}
use Rattle.home.specs.Device.{Told}
use Rattle.home_laws.specs.Refused.{access_refusal}
use Rattle.node_parts.specs.Comes.{Comes, work_of}
use Rattle.node_parts.specs.Outputs.{OutputsView}
use Rattle.node_parts.specs.State.{PartsView, AreParts, node_of}
use Rattle.node_parts.specs.declared.fault.StepFault.{StepFault}
use Rattle.node_parts.specs.declared.fault.StepFault.TheVariants.{NoMemory, Halted, Differs}
use Rattle.page_owner.specs.Carry.{HasSame, IsTakeFault, SameNode, halted_by}
use Rattle.page_owner.specs.Writes.{after_calls}
use Rattle.own_steps.specs.Calls.{IsAccessFault, LeavesCalls, own_calls}
use Rattle.own_steps.proofs.Framed.{access_writes}
use Rattle.own_steps.proofs.Refusing.{not_refused}
use Rattle.cut_step.specs.Cuts.{LeavesFront}
use Rattle.step_laws.proofs.Outcomes.{On}
use Rattle.node_core.specs.Steps.{IsStep, IsStepFault, Seen}
use Rattle.node_core.proofs.EventCalls.{aborted_calls, access_calls}
use Rattle.node_core.proofs.Coming.{own_ended}
use Rattle.node_core.proofs.Fates.{access_names, access_not_log, access_step, fault_as, own_ends, own_others, take_names, take_step}
use Rattle.node_core.proofs.Forceless.{ForceNone, writes_forceless}
use Rattle.node_core.proofs.OwnerCalls.{Same}
use Rattle.node_core.proofs.Running.{NamesNone, names_as}
use Rattle.node_core.proofs.Stepping.{step_of}

-- an access that the rules don't refuse isn't refused at home, and the node is in a view
is_true : (b : Bool) → not b ≡ false → b ≡ true
is_true true e = refl
is_true false e = absurd (cc)

pub read_view : (n : NodeState) (t : TxId) (p : ℕ) → refusal n (Read t p) ≡ None → is_some n.view ≡ true
unfolding refusal
read_view n t p none = is_true (is_some n.view) (not_refused (not (is_some n.view)) reason.NotInView (refusal_in_view n (Read t p)) none).0

pub read_home : (n : NodeState) (t : TxId) (p : ℕ) → refusal n (Read t p) ≡ None → access_refusal (record { tx = t; page = p; write = None }) n.home ≡ None
unfolding refusal access_refusal
read_home n t p none = (not_refused (not (is_some n.view)) reason.NotInView (refusal_in_view n (Read t p)) none).1

pub write_view : (n : NodeState) (t : TxId) (p place : ℕ) (bytes : List ℕ) → refusal n (Write t p place bytes) ≡ None → is_some n.view ≡ true
unfolding refusal
write_view n t p place bytes none = is_true (is_some n.view) (not_refused (not (is_some n.view)) reason.NotInView (refusal_in_view n (Write t p place bytes)) none).0

pub write_home : (n : NodeState) (t : TxId) (p place : ℕ) (bytes : List ℕ) → refusal n (Write t p place bytes) ≡ None
    → access_refusal (record { tx = t; page = p; write = Some (place, bytes) }) n.home ≡ None
unfolding refusal access_refusal
write_home n t p place bytes none = (not_refused (not (is_some n.view)) reason.NotInView (refusal_in_view n (Write t p place bytes)) none).1

-- want of memory leaves what is told
pub left_same : (me : ℕ) (calls : List DiskCall) (old new : Told) (r : Result (Unit {0}) StepFault) → LeavesCalls me r calls old new → r ≡ Err NoMemory → new ≡ old
left_same me calls old new r left is = subst (λ (z : Result (Unit {0}) StepFault). LeavesCalls me z calls old new) is left

pub front_same : (me count : ℕ) (old new : Told) (r : Result (Unit {0}) StepFault) → LeavesFront me count r old new → r ≡ Err NoMemory → new ≡ old
front_same me count old new r left is = subst (λ (z : Result (Unit {0}) StepFault). LeavesFront me count z old new) is left

module _ (v later : PartsView) (out after : OutputsView) (old new : Seen) (r : Result (Unit {0}) StepFault) (parts : AreParts v) (replies : out.replies ≡ []) (sends : out.sends ≡ []) where
  abbrev n : NodeState
  n = node_of v

  abbrev m : NodeState
  m = node_of later

  -- a count that never falls, and a call that failed
  abbrev pub Counted : Type 0
  Counted = ((k : Call) → old.faults k ≤ new.faults k) × ((k : Call) → halted_by r ≡ Some k → Rose (old.faults k) (new.faults k))

  -- reading calls
  abbrev pub Calm : Type 0
  Calm = (l : List (Option ℕ)) → NoneFails old.failing v.me l → NoneFails new.failing v.me l

  abbrev pub Quiet : Type 0
  Quiet = (l : List (Option ℕ)) → NoneFails old.failing v.me l → (halted_by r ≢ Some call.Read) × (halted_by r ≢ Some call.Log)

  -- a part that tells its changing calls
  pub part : (event : NodeEvent) (calls : List DiskCall) (ps : Disk → List (List ℕ)) → ForceNone calls → refusal n event ≡ None
      → ((d : Disk) → old.told.pages ≡ Some d.pages → Comes (do_event d event (work_of n d.pages [] out)) r (work_of m (ps d) calls after))
      → LeavesCalls (number_of n) r calls old.told new.told → ((d : Disk) → On (Same calls) (do_event d event (begin_work n d)))
      → NamesNone r → (r ≡ Err NoMemory → m ≡ n) → (r ≡ Err NoMemory → HasSame out after) → SameNode v.home later.home → IfErr r IsStepFault
      → HasSizes n.home.config new.told.pages new.told.logs new.rooms → Calm → Quiet → Counted → IsStep n event out old r m after new
  part event calls ps forceless none comes left same names node lists kept fault sizes calm quiet counted =
      step_of v later out after old new r parts replies sends event (λ d. calls) ps none (λ d pages logs. comes d pages)
      (λ d pages logs told. own_ended (number_of n) d calls old.told.stops old.told new.told told forceless r left names)
      (λ d l pages logs none. own_ends (number_of n) calls old.told new.told r left (quiet l none)) same
      (λ d stops l logs armed calm. names_as (number_of n) d stops r calls forceless names)
      (λ is. (node is, lists is, left_same (number_of n) calls old.told new.told r left is)) (kept.config, kept.node) fault sizes
      (λ d pages logs. own_others (number_of n) calls old.told new.told r left) calm quiet counted.0 counted.1

  -- an access
  pub access_step_is : (event : NodeEvent) (a : Access) → refusal n event ≡ None → ((d : Disk) (w : Work) → do_event d event w ≡ do_access a w)
      → ((ps : List (List ℕ)) (cs : List DiskCall) → old.told.pages ≡ Some ps → Comes (do_access a (work_of n ps cs out)) r (work_of m (after_calls ps (own_calls a n)) (cs ++ own_calls a n) after))
      → LeavesCalls (number_of n) r (own_calls a n) old.told new.told → (r ≡ Err NoMemory → m ≡ n) → (r ≡ Err NoMemory → HasSame out after) → SameNode v.home later.home → IfErr r IsAccessFault
      → HasSizes n.home.config new.told.pages new.told.logs new.rooms → Calm → ((l : List (Option ℕ)) → NoneFails old.failing v.me l → halted_by r ≢ Some call.Read) → Counted
      → IsStep n event out old r m after new
  access_step_is event a none rule comes left node lists kept fault sizes calm quiet counted =
      part event (own_calls a n) (λ d. after_calls d.pages (own_calls a n)) (writes_forceless (own_calls a n) (access_writes a (page_owner n a.page == number_of n) n.home)) none
      (λ d pages. subst (λ o. Comes o r (work_of m (after_calls d.pages (own_calls a n)) (own_calls a n) after)) (sym (rule d (work_of n d.pages [] out))) (comes d.pages [] pages)) left
      (λ d. subst (On (Same (own_calls a n))) (sym (rule d _)) (access_calls a n d)) (access_names r fault) node lists kept (fault_as IsAccessFault IsStepFault access_step r fault) sizes calm
      (λ l is. (quiet l is, access_not_log r fault)) counted

  pub read_step : (t : TxId) (p : ℕ) → refusal n (Read t p) ≡ None
      → ((ps : List (List ℕ)) (cs : List DiskCall) → old.told.pages ≡ Some ps
      → Comes (do_access (record { tx = t; page = p; write = None }) (work_of n ps cs out)) r (work_of m (after_calls ps (own_calls (record { tx = t; page = p; write = None }) n)) (cs ++ own_calls (record { tx = t; page = p; write = None }) n) after))
      → LeavesCalls (number_of n) r (own_calls (record { tx = t; page = p; write = None }) n) old.told new.told → (r ≡ Err NoMemory → m ≡ n) → (r ≡ Err NoMemory → HasSame out after) → SameNode v.home later.home → IfErr r IsAccessFault
      → HasSizes n.home.config new.told.pages new.told.logs new.rooms → Calm → ((l : List (Option ℕ)) → NoneFails old.failing v.me l → halted_by r ≢ Some call.Read) → Counted
      → IsStep n (Read t p) out old r m after new
  unfolding do_event
  read_step t p none = access_step_is (Read t p) (record { tx = t; page = p; write = None }) none (λ d w. refl)

  pub write_step_is : (t : TxId) (p place : ℕ) (bytes : List ℕ) → refusal n (Write t p place bytes) ≡ None
      → ((ps : List (List ℕ)) (cs : List DiskCall) → old.told.pages ≡ Some ps
      → Comes (do_access (record { tx = t; page = p; write = Some (place, bytes) }) (work_of n ps cs out)) r (work_of m (after_calls ps (own_calls (record { tx = t; page = p; write = Some (place, bytes) }) n)) (cs ++ own_calls (record { tx = t; page = p; write = Some (place, bytes) }) n) after))
      → LeavesCalls (number_of n) r (own_calls (record { tx = t; page = p; write = Some (place, bytes) }) n) old.told new.told → (r ≡ Err NoMemory → m ≡ n) → (r ≡ Err NoMemory → HasSame out after) → SameNode v.home later.home
      → IfErr r IsAccessFault → HasSizes n.home.config new.told.pages new.told.logs new.rooms → Calm → ((l : List (Option ℕ)) → NoneFails old.failing v.me l → halted_by r ≢ Some call.Read) → Counted
      → IsStep n (Write t p place bytes) out old r m after new
  unfolding do_event
  write_step_is t p place bytes none = access_step_is (Write t p place bytes) (record { tx = t; page = p; write = Some (place, bytes) }) none (λ d w. refl)

  -- an abort makes no changing call
  abort_left : (r : Result (Unit {0}) StepFault) → IfErr r IsTakeFault → new.told ≡ old.told → LeavesCalls (number_of n) r [] old.told new.told
  abort_left (Ok x) fault same = same
  abort_left (Err NoMemory) fault same = same
  abort_left (Err (Differs p expected found)) fault same = same
  abort_left (Err (Halted k kept)) fault same =
      subst (λ (z : Call). LeavesCalls {T = Unit {0}} (number_of n) (Err (Halted z kept)) [] old.told new.told) (sym fault.0) same

  halts_not : ((l : List (Option ℕ)) → NoneFails old.failing v.me l → halted_by r ≡ None) → Quiet
  halts_not none l is =
      let nobody : halted_by r ≡ None = none l is in
      (λ e. absurd (cc), λ e. absurd (cc))

  pub abort_step : (t : TxId) → refusal n (Abort t) ≡ None
      → ((ps : List (List ℕ)) (cs : List DiskCall) → old.told.pages ≡ Some ps → Comes (end_work (reply.Aborted t) t (work_of n ps cs out) (abort t (work_of_home (work_of n ps cs out)))) r (work_of m ps cs after))
      → (r ≡ Err NoMemory → m ≡ n) → (r ≡ Err NoMemory → HasSame out after) → SameNode v.home later.home → IfErr r IsTakeFault → new.told ≡ old.told
      → HasSizes n.home.config new.told.pages new.told.logs new.rooms → Calm → ((l : List (Option ℕ)) → NoneFails old.failing v.me l → halted_by r ≡ None) → Counted → IsStep n (Abort t) out old r m after new
  unfolding do_event
  abort_step t none comes node lists kept fault same sizes calm quiet counted =
      part (Abort t) [] (λ d. d.pages) tt none (λ d pages. comes d.pages [] pages) (abort_left r fault same) (aborted_calls t n) (take_names r fault) node lists kept
      (fault_as IsTakeFault IsStepFault take_step r fault) sizes calm (halts_not quiet) counted
