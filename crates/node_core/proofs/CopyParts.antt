-- The steps that begin a transaction, write a copy or cut the log, from what the parts say of them.
use Rattle.std.proofs.Common.{arith, ◌≡◌, ◌++◌, refl, ap, sym, subst, ℕ, List, [], Some, None, Result, Ok, Err}
use Rattle.std.specs.Prelude.{IfErr, OnErr}
use Rattle.pcl_base.specs.declared.trace.Call.{Call}
use Rattle.run_rules.specs.Disk.{Disk}
use Rattle.disk_model.specs.Disk.{HasSizes}
use Rattle.redo_log.specs.Told.{NoneFails}
use Rattle.disk_model.specs.Stops.{Failing}
use Rattle.node_rules.specs.DiskCalls.{DiskCall}
use Rattle.node_rules.specs.NodeState.{NodeState, Begin, Evict, Flush, Cut, number_of}
use Rattle.node_rules.specs.NodeStep.{cut_log, do_event, evict_copy, flush_copy, open_tx}
use Rattle.node_rules.specs.Refusals.{refusal}
use Rattle.node_rules.specs.Work.{Goes}
use Rattle.home.specs.Device.{work_on}
use Rattle.node_parts.specs.Comes.{Comes, work_of}
use Rattle.node_parts.specs.Outputs.{OutputsView}
use Rattle.node_parts.specs.State.{PartsView, AreParts, node_of}
use Rattle.node_parts.specs.declared.fault.StepFault.{StepFault}
use Rattle.node_parts.specs.declared.fault.StepFault.TheVariants.{NoMemory}
use Rattle.page_owner.specs.Carry.{HasSame, SameNode, halted_by}
use Rattle.page_owner.specs.Writes.{after_calls}
use Rattle.own_steps.specs.Calls.{IsWriteFault, LeavesCalls, evict_calls, flush_calls}
use Rattle.cut_step.specs.Cuts.{IsFrontFault, LeavesFront, cut_calls, front_of}
use Rattle.step_ends.specs.Ran.{OthersStayArmed}
use Rattle.node_core.specs.Steps.{IsStep, IsStepFault, Seen}
use Rattle.own_steps.proofs.Made.{back_writes}
use Rattle.node_core.proofs.Coming.{front_ended}
use Rattle.node_core.proofs.EventCalls.{cut_off_calls, evicted_calls, flushed_calls}
use Rattle.node_core.proofs.Fates.{fault_as, front_ends, front_names, front_others, front_step, write_names, write_quiet, write_step}
use Rattle.node_core.proofs.Forceless.{cut_forceless, writes_forceless}
use Rattle.node_core.proofs.OwnParts.{Calm, Counted, Quiet, front_same, part}
use Rattle.node_core.proofs.Running.{names_as}
use Rattle.node_core.proofs.Stepping.{step_of}

-- a step that began and left its storage alone
module _ (v later : PartsView) (out after : OutputsView) (old : Seen) (r : Result (Unit {0}) StepFault) (parts : AreParts v) (replies : out.replies ≡ []) (sends : out.sends ≡ []) where
  abbrev here : NodeState
  here = node_of v

  abbrev there : NodeState
  there = node_of later

  alone : (r : Result (Unit {0}) StepFault) → IfErr r (λ e. e ≡ NoMemory) → LeavesCalls (number_of here) r [] old.told old.told
  alone (Ok x) fault = refl
  alone (Err e) fault = subst (λ z. LeavesCalls {T = Unit {0}} (number_of here) (Err z) [] old.told old.told) (sym fault) refl

  wants : (r : Result (Unit {0}) StepFault) → IfErr r (λ e. e ≡ NoMemory) → IfErr r IsWriteFault
  wants (Ok x) fault = tt
  wants (Err e) fault = subst IsWriteFault (sym fault) tt

  on_err : {P : Type 0} → OnErr r P → r ≡ Err NoMemory → P
  on_err {P = P} says is = subst (λ (z : Result (Unit {0}) StepFault). OnErr z P) is says

  halts_not : (r : Result (Unit {0}) StepFault) → IfErr r (λ e. e ≡ NoMemory) → (k : Call) → halted_by r ≡ Some k → ⊥
  halts_not (Ok x) fault k e = absurd (cc)
  halts_not (Err f) fault k e =
      let nobody : None ≡ Some k = subst (λ (z : StepFault). halted_by {X = Unit {0}} (Err z) ≡ Some k) fault e in
      absurd (cc)

  pub begin_step : refusal here Begin ≡ None → ((ps : List (List ℕ)) (cs : List DiskCall) → Comes (Goes (open_tx (work_of here ps cs out))) r (work_of there ps cs after))
      → OnErr r (later ≡ v) → OnErr r (HasSame out after) → SameNode v.home later.home → IfErr r (λ e. e ≡ NoMemory) → HasSizes here.home.config old.told.pages old.told.logs old.rooms
      → IsStep here Begin out old r there after old
  unfolding do_event
  begin_step none comes node lists kept fault sizes =
      part v later out after old old r parts replies sends Begin [] (λ d. d.pages) tt none (λ d pages. comes d.pages []) (alone r fault) (λ d. refl) (write_names r (wants r fault))
      (λ is. ap node_of (on_err node is)) (on_err lists) kept (fault_as IsWriteFault IsStepFault write_step r (wants r fault)) sizes (λ l is. is) (λ l is. write_quiet r (wants r fault)) (λ k. omega arith, λ k e. absurd (halts_not r fault k e))

module _ (v later : PartsView) (out after : OutputsView) (old new : Seen) (r : Result (Unit {0}) StepFault) (parts : AreParts v) (replies : out.replies ≡ []) (sends : out.sends ≡ []) where
  abbrev before : NodeState
  before = node_of v

  abbrev behind : NodeState
  behind = node_of later

  still : new.failing ≡ old.failing → Calm v later out after old new r parts replies sends
  still same l is = subst (λ (f : Failing). NoneFails f v.me l) (sym same) is

  pub evict_step : (p : ℕ) → refusal before (Evict p) ≡ None
      → ((ps : List (List ℕ)) (cs : List DiskCall) → Comes (Goes (evict_copy p (work_of before ps cs out))) r (work_of behind (after_calls ps (evict_calls p v.home)) (cs ++ evict_calls p v.home) after))
      → LeavesCalls (number_of before) r (evict_calls p v.home) old.told new.told → (r ≡ Err NoMemory → later ≡ v) → (r ≡ Err NoMemory → HasSame out after) → SameNode v.home later.home → IfErr r IsWriteFault
      → HasSizes before.home.config new.told.pages new.told.logs new.rooms → new.failing ≡ old.failing → Counted v later out after old new r parts replies sends → IsStep before (Evict p) out old r behind after new
  unfolding do_event
  evict_step p none comes left node lists kept fault sizes failing counted =
      part v later out after old new r parts replies sends (Evict p) (evict_calls p v.home) (λ d. after_calls d.pages (evict_calls p v.home)) (writes_forceless (evict_calls p v.home) (back_writes p (work_on v.home) tt)) none (λ d pages. comes d.pages []) left
      (evicted_calls p before) (write_names r fault) (λ is. ap node_of (node is)) lists kept (fault_as IsWriteFault IsStepFault write_step r fault) sizes (still failing) (λ l is. write_quiet r fault) counted

  pub flush_step : (p : ℕ) → refusal before (Flush p) ≡ None
      → ((ps : List (List ℕ)) (cs : List DiskCall) → Comes (Goes (flush_copy p (work_of before ps cs out))) r (work_of behind (after_calls ps (flush_calls p v.home)) (cs ++ flush_calls p v.home) after))
      → LeavesCalls (number_of before) r (flush_calls p v.home) old.told new.told → (r ≡ Err NoMemory → later ≡ v) → (r ≡ Err NoMemory → HasSame out after) → SameNode v.home later.home → IfErr r IsWriteFault
      → HasSizes before.home.config new.told.pages new.told.logs new.rooms → new.failing ≡ old.failing → Counted v later out after old new r parts replies sends → IsStep before (Flush p) out old r behind after new
  unfolding do_event
  flush_step p none comes left node lists kept fault sizes failing counted =
      part v later out after old new r parts replies sends (Flush p) (flush_calls p v.home) (λ d. after_calls d.pages (flush_calls p v.home)) (writes_forceless (flush_calls p v.home) (back_writes p (work_on v.home) tt)) none (λ d pages. comes d.pages []) left
      (flushed_calls p before) (write_names r fault) (λ is. ap node_of (node is)) lists kept (fault_as IsWriteFault IsStepFault write_step r fault) sizes (still failing) (λ l is. write_quiet r fault) counted

-- a cut leaves the node alone
module _ (v : PartsView) (out after : OutputsView) (old new : Seen) (r : Result (Unit {0}) StepFault) (parts : AreParts v) (replies : out.replies ≡ []) (sends : out.sends ≡ []) where
  abbrev same : NodeState
  same = node_of v

  on_fault : {P : Type 0} → OnErr r P → r ≡ Err NoMemory → P
  on_fault {P = P} says is = subst (λ (z : Result (Unit {0}) StepFault). OnErr z P) is says

  pub cut_step : refusal same Cut ≡ None
      → ((d : Disk) (cs : List DiskCall) → old.told.pages ≡ Some d.pages → old.told.logs ≡ Some d.logs → Comes (cut_log d (work_of same d.pages cs out)) r (work_of same d.pages (cs ++ cut_calls (front_of d same)) after))
      → ((d : Disk) → old.told.pages ≡ Some d.pages → old.told.logs ≡ Some d.logs → LeavesFront v.me (front_of d same) r old.told new.told)
      → (count : ℕ) → LeavesFront v.me count r old.told new.told → OnErr r (HasSame out after) → IfErr r IsFrontFault → HasSizes same.home.config new.told.pages new.told.logs new.rooms
      → Calm v v out after old new r parts replies sends → Quiet v v out after old new r parts replies sends → Counted v v out after old new r parts replies sends → IsStep same Cut out old r same after new
  unfolding do_event
  cut_step none comes made count left lists fault sizes calm quiet counted =
      step_of v v out after old new r parts replies sends Cut (λ d. cut_calls (front_of d same)) (λ d. d.pages) none (λ d pages logs. comes d [] pages logs)
      (λ d pages logs told. front_ended (number_of same) (front_of d same) d old.told.stops old.told new.told told r (mine d pages logs) fault (front_names r fault))
      (λ d l pages logs is.
      front_ends (number_of same) (front_of d same) old.told new.told r (mine d pages logs) fault (quiet l is)) (cut_off_calls same)
      (λ d stops l logs armed is. names_as (number_of same) d stops r (cut_calls (front_of d same)) (cut_forceless (front_of d same)) (front_names r fault))
      (λ is. (refl, on_fault lists is, front_same v.me count old.told new.told r left is)) (refl, refl) (fault_as IsFrontFault IsStepFault front_step r fault) sizes
      (λ d pages logs. subst (λ k. OthersStayArmed k old.told.stops new.told.stops) parts.number (front_others v.me count old.told new.told r left)) calm quiet counted.0 counted.1
    where
      mine : (d : Disk) → old.told.pages ≡ Some d.pages → old.told.logs ≡ Some d.logs → LeavesFront (number_of same) (front_of d same) r old.told new.told
      mine d pages logs = subst (λ k. LeavesFront k (front_of d same) r old.told new.told) parts.number (made d pages logs)
