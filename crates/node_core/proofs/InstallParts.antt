-- The step that installs a view, from what its part says.
use Rattle.std.proofs.Common.{◌≡◌, ◌⊎◌, inl, inr, ◌++◌, refl, ap, sym, subst, ℕ, true, List, [], Option, Some, None, Result, Ok, Err}
use Rattle.std.specs.Prelude.{IfErr}
use Rattle.pcl_base.specs.declared.trace.Call.{Call}
use Rattle.pcl_base.specs.declared.trace.Call.TheVariants as call
use Rattle.run_rules.specs.Disk.{Disk}
use Rattle.run_rules.specs.Views.{View}
use Rattle.disk_model.specs.Disk.{HasSizes}
use Rattle.redo_log.specs.Told.{NoneFails}
use Rattle.node_rules.specs.DiskCalls.{DiskCall}
use Rattle.node_rules.specs.InstallRule.{install_view}
use Rattle.node_rules.specs.NodeState.{NodeState, NodeEvent, Install, number_of}
use Rattle.node_rules.specs.NodeStep.{begin_work, do_event}
use Rattle.node_rules.specs.Refusals.{refusal}
use Rattle.node_rules.specs.Work.{Work, Outcome, Goes, Differs as differs}
use Rattle.node_parts.specs.Comes.{Comes, work_of}
use Rattle.node_parts.specs.Outputs.{OutputsView}
use Rattle.node_parts.specs.State.{PartsView, AreParts, node_of}
use Rattle.node_parts.specs.declared.fault.StepFault.{StepFault}
use Rattle.node_parts.specs.declared.fault.StepFault.TheVariants.{NoMemory, Halted, Differs}
use Rattle.page_owner.specs.Carry.{HasSame, halted_by}
use Rattle.page_owner.specs.Writes.{after_calls}
use Rattle.install_steps.specs.Births.{is_born_in}
use Rattle.install_steps.specs.Calls.{IsInstallFault, LeavesCalls, UnlessWanting, install_calls}
use Rattle.install_steps.specs.Laws.{HasMade}
use Rattle.install_steps.specs.Views.{KeepsNumbers}
use Rattle.install_steps.proofs.Calling.{has_made, installs_make}
use Rattle.step_laws.proofs.Outcomes.{On}
use Rattle.node_core.specs.Steps.{IsStep, IsStepFault, Seen}
use Rattle.node_core.proofs.BrokenOff.{broken_ended, broken_ends, broken_others, install_fault, install_forceless, install_names}
use Rattle.node_core.proofs.Fates.{IsQuiet, fault_as}
use Rattle.node_core.proofs.OwnParts.{Calm, Counted}
use Rattle.node_core.proofs.OwnerCalls.{Same}
use Rattle.node_core.proofs.Running.{names_as, others_same}
use Rattle.node_core.proofs.Stepping.{step_of}

-- a work, if there is one, has made these calls
pub on_made : (calls : List DiskCall) (o : Outcome Work) → HasMade calls o → On (Same calls) o
on_made calls (Goes w) made = made
on_made calls (differs p e f) made = tt

-- memory is wanting, or a fact is known
unless : (r : Result (Unit {0}) StepFault) (X : Type 0) → UnlessWanting r X → (r ≡ Err NoMemory) ⊎ X
unless (Ok x) X is = inr is
unless (Err NoMemory) X is = inl refl
unless (Err (Halted k kept)) X is = inr is
unless (Err (Differs p e f)) X is = inr is

-- the calls of an outcome, if there is one
abbrev calls_of : Outcome Work → List DiskCall
calls_of (Goes w) = w.calls
calls_of (differs p e f) = []

-- a step that wants memory, whatever its event
module _ (v later : PartsView) (out after : OutputsView) (old new : Seen) (parts : AreParts v) (replies : out.replies ≡ []) (sends : out.sends ≡ []) where
  abbrev wants : Result (Unit {0}) StepFault
  wants = Err NoMemory

  own_calls : (o : Outcome Work) → On (Same (calls_of o)) o
  own_calls (Goes w) = refl
  own_calls (differs p e f) = tt

  comes_to : (o : Outcome Work) (w : Work) → Comes o wants w
  comes_to (Goes x) w = tt
  comes_to (differs p e f) w = tt

  step_wanting : (event : NodeEvent) → refusal (node_of v) event ≡ None → later ≡ v → HasSame out after → new.told ≡ old.told → HasSizes (node_of v).home.config new.told.pages new.told.logs new.rooms
      → Calm v later out after old new wants parts replies sends → Counted v later out after old new wants parts replies sends → IsStep (node_of v) event out old wants (node_of later) after new
  step_wanting event none node lists told sizes calm counted =
      step_of v later out after old new wants parts replies sends event (λ d. calls_of (do_event d event (begin_work (node_of v) d))) (λ d. d.pages) none
      (λ d pages logs.
      comes_to (do_event d event (work_of (node_of v) d.pages [] out)) (work_of (node_of later) d.pages (calls_of (do_event d event (begin_work (node_of v) d))) after)) (λ d pages logs told. tt) (λ d l pages logs is. tt)
      (λ d. own_calls (do_event d event (begin_work (node_of v) d))) (λ d stops l logs armed is. tt)
      (λ is. (ap node_of node, lists, told)) (ap (λ (z : PartsView). z.home.config) node, ap (λ (z : PartsView). number_of (node_of z)) node) tt sizes
      (λ d pages logs. others_same (number_of (node_of v)) old.told new.told told) calm (λ l is. (λ e. absurd (cc), λ e. absurd (cc))) counted.0 counted.1

module _ (v later : PartsView) (out after : OutputsView) (old new : Seen) (r : Result (Unit {0}) StepFault) (parts : AreParts v) (replies : out.replies ≡ []) (sends : out.sends ≡ []) where
  abbrev n : NodeState
  n = node_of v

  abbrev m : NodeState
  m = node_of later

  -- none of its reading calls fails
  abbrev Halts : Type 0
  Halts = (l : List (Option ℕ)) (k : Call) → NoneFails old.failing v.me l → halted_by r ≡ Some k → (k ≡ call.Write) ⊎ (k ≡ call.Trim)

  not_read : (call.Read ≡ call.Write) ⊎ (call.Read ≡ call.Trim) → ⊥
  not_read (inl e) = absurd (cc)
  not_read (inr e) = absurd (cc)

  not_log : (call.Log ≡ call.Write) ⊎ (call.Log ≡ call.Trim) → ⊥
  not_log (inl e) = absurd (cc)
  not_log (inr e) = absurd (cc)

  quiet_as : Halts → (l : List (Option ℕ)) → NoneFails old.failing v.me l → IsQuiet r
  quiet_as halts l is = (λ e. not_read (halts l call.Read is e), λ e. not_log (halts l call.Log is e))

  counted_as : Counted v later out after old new r parts replies sends → Counted v later out after old new (Err NoMemory) parts replies sends
  counted_as counted = (counted.0, λ k e. absurd (cc))

  pub install_step : (w : View) → refusal n (Install w) ≡ None
      → ((d : Disk) (cs : List DiskCall) → old.told.pages ≡ Some d.pages → old.told.logs ≡ Some d.logs
      → Comes (install_view d w (work_of n d.pages cs out)) r (work_of m (after_calls d.pages (install_calls d w n)) (cs ++ install_calls d w n) after))
      → ((d : Disk) → old.told.pages ≡ Some d.pages → old.told.logs ≡ Some d.logs → LeavesCalls v.me r (install_calls d w n) old.told new.told)
      → (r ≡ Err NoMemory → later ≡ v) → (r ≡ Err NoMemory → HasSame out after) → (r ≡ Err NoMemory → new.told ≡ old.told) → UnlessWanting r (is_born_in w n ≡ true → n.home.txs.txs ≡ []) → KeepsNumbers v later
      → IfErr r IsInstallFault → HasSizes n.home.config new.told.pages new.told.logs new.rooms → Calm v later out after old new r parts replies sends → Halts → Counted v later out after old new r parts replies sends
      → IsStep n (Install w) out old r m after new
  unfolding do_event
  install_step w none comes left node lists told unbegun kept fault sizes calm halts counted = by (unless r (is_born_in w n ≡ true → n.home.txs.txs ≡ []) unbegun)
    where
      mine : (d : Disk) → old.told.pages ≡ Some d.pages → old.told.logs ≡ Some d.logs → LeavesCalls (number_of n) r (install_calls d w n) old.told new.told
      mine d pages logs = subst (λ k. LeavesCalls k r (install_calls d w n) old.told new.told) parts.number (left d pages logs)

      by : (r ≡ Err NoMemory) ⊎ (is_born_in w n ≡ true → n.home.txs.txs ≡ []) → IsStep n (Install w) out old r m after new
      by (inl is) =
          subst (λ (z : Result (Unit {0}) StepFault). IsStep n (Install w) out old z m after new) (sym is)
          (step_wanting v later out after old new parts replies sends (Install w) none (node is) (lists is) (told is) sizes calm (counted_as counted))
      by (inr begun) =
          step_of v later out after old new r parts replies sends (Install w) (λ d. install_calls d w n) (λ d. after_calls d.pages (install_calls d w n)) none (λ d pages logs. comes d [] pages logs)
          (λ d pages logs told. broken_ended (number_of n) (install_calls d w n) old.told new.told d old.told.stops told (install_forceless d w n) r (mine d pages logs) (install_names r fault))
          (λ d l pages logs is. broken_ends (number_of n) (install_calls d w n) old.told new.told r (mine d pages logs) (quiet_as halts l is))
          (λ d. on_made (install_calls d w n) (install_view d w (begin_work n d)) (has_made _ _ (installs_make d w n (begin_work n d) parts.node.places begun refl refl)))
          (λ d stops l logs armed is. names_as (number_of n) d stops r (install_calls d w n) (install_forceless d w n) (install_names r fault))
          (λ is. (ap node_of (node is), lists is, told is)) (kept.config, kept.number) (fault_as IsInstallFault IsStepFault install_fault r fault) sizes
          (λ d pages logs. broken_others (number_of n) (install_calls d w n) old.told new.told r (mine d pages logs)) calm (quiet_as halts) counted.0 counted.1
