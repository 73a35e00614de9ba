-- The step of a message that is delivered, and isn't a report.
use Rattle.std.proofs.Common.{◌≡◌, ◌≢◌, ◌++◌, ap, subst, ℕ, false, List, [], Option, Some, None, Result, Err}
use Rattle.std.specs.Prelude.{IfErr}
use Rattle.pcl_base.specs.declared.message.Message.{Message}
use Rattle.pcl_base.specs.declared.trace.Call.TheVariants as call
use Rattle.run_rules.specs.Disk.{Disk}
use Rattle.disk_model.specs.Disk.{HasSizes}
use Rattle.redo_log.specs.Told.{NoneFails}
use Rattle.node_rules.specs.DiskCalls.{DiskCall}
use Rattle.node_rules.specs.NodeState.{NodeState, Deliver, number_of}
use Rattle.node_rules.specs.NodeStep.{do_event, take_message}
use Rattle.node_rules.specs.Refusals.{refusal}
use Rattle.node_parts.specs.Comes.{Comes, work_of}
use Rattle.node_parts.specs.Outputs.{OutputsView}
use Rattle.node_parts.specs.State.{PartsView, AreParts, node_of}
use Rattle.node_parts.specs.declared.fault.StepFault.{StepFault}
use Rattle.node_parts.specs.declared.fault.StepFault.TheVariants.{NoMemory}
use Rattle.page_owner.specs.Carry.{HasSame, SameNode, halted_by}
use Rattle.page_owner.specs.Released.{IsReleaseFault, LeavesCalls, is_report, message_calls}
use Rattle.page_owner.specs.Writes.{after_calls}
use Rattle.node_core.specs.Steps.{IsStep, IsStepFault, Seen}
use Rattle.node_core.proofs.Coming.{owner_ended}
use Rattle.node_core.proofs.EventCalls.{delivered_calls}
use Rattle.node_core.proofs.Fates.{fault_as, owner_ends, owner_others, release_names, release_not_log, release_step}
use Rattle.node_core.proofs.Forceless.{messages_forceless}
use Rattle.node_core.proofs.OwnParts.{Calm, Counted}
use Rattle.node_core.proofs.Running.{names_as}
use Rattle.node_core.proofs.Stepping.{step_of}

module _ (v later : PartsView) (out after : OutputsView) (old new : Seen) (r : Result (Unit {0}) StepFault) (parts : AreParts v) (replies : out.replies ≡ []) (sends : out.sends ≡ []) where
  abbrev n : NodeState
  n = node_of v

  abbrev m : NodeState
  m = node_of later

  told_same : (calls : List DiskCall) → LeavesCalls v.me r calls old.told new.told → r ≡ Err NoMemory → new.told ≡ old.told
  told_same calls left is = subst (λ (z : Result (Unit {0}) StepFault). LeavesCalls v.me z calls old.told new.told) is left

  pub deliver_step : (from : ℕ) (msg : Message) → is_report msg.body ≡ false → refusal n (Deliver from msg) ≡ None
      → ((d : Disk) (ps : List (List ℕ)) (cs : List DiskCall) → old.told.pages ≡ Some ps
      → Comes (take_message d from msg (work_of n ps cs out)) r (work_of m (after_calls ps (message_calls from msg n)) (cs ++ message_calls from msg n) after))
      → LeavesCalls v.me r (message_calls from msg n) old.told new.told → (r ≡ Err NoMemory → later ≡ v) → (r ≡ Err NoMemory → HasSame out after) → SameNode v.home later.home → IfErr r IsReleaseFault
      → HasSizes n.home.config new.told.pages new.told.logs new.rooms → Calm v later out after old new r parts replies sends
      → ((l : List (Option ℕ)) → NoneFails old.failing v.me l → halted_by r ≢ Some call.Read) → Counted v later out after old new r parts replies sends → IsStep n (Deliver from msg) out old r m after new
  unfolding do_event
  deliver_step from msg other none comes left node lists kept fault sizes calm quiet counted =
      step_of v later out after old new r parts replies sends (Deliver from msg) (λ d. calls) (λ d. after_calls d.pages calls) none (λ d pages logs. comes d d.pages [] pages)
      (λ d pages logs told. owner_ended (number_of n) d calls old.told.stops old.told new.told told (messages_forceless from msg n) r mine fault (release_names r fault))
      (λ d l pages logs is. owner_ends (number_of n) calls old.told new.told r mine fault (quiet l is)) (λ d. delivered_calls n d from msg other)
      (λ d stops l logs armed is. names_as (number_of n) d stops r calls (messages_forceless from msg n) (release_names r fault))
      (λ is. (ap node_of (node is), lists is, told_same calls left is)) (kept.config, kept.node) (fault_as IsReleaseFault IsStepFault release_step r fault) sizes
      (λ d pages logs. owner_others (number_of n) calls old.told new.told r mine) calm (λ l is. (quiet l is, release_not_log r fault)) counted.0 counted.1
    where
      calls : List DiskCall
      calls = message_calls from msg n

      mine : LeavesCalls (number_of n) r (message_calls from msg n) old.told new.told
      mine = subst (λ k. LeavesCalls k r (message_calls from msg n) old.told new.told) parts.number left
