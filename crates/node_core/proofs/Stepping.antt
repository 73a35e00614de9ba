-- What a step comes to, from what its part says.
use Rattle.std.proofs.Common.{arith, ◌≡◌, ◌≢◌, ◌≤◌, refl, sym, subst, ℕ, List, [], Option, Some, None, option_map, Result, Err}
use Rattle.std.specs.Prelude.{IfErr}
use Rattle.pcl_base.specs.Faults.{Rose}
use Rattle.pcl_base.specs.declared.trace.Call.{Call}
use Rattle.pcl_base.specs.declared.trace.Call.TheVariants as call
use Rattle.run_rules.specs.Disk.{Disk}
use Rattle.pcl_base.specs.Limits.{Sizes}
use Rattle.disk_model.specs.Disk.{HasSizes, Logs, Pages, Rooms}
use Rattle.disk_model.specs.declared.stop.Stop.{Stop}
use Rattle.redo_log.specs.Told.{NoneFails}
use Rattle.node_rules.specs.DiskCalls.{DiskCall}
use Rattle.node_rules.specs.NodeState.{NodeState, NodeEvent, number_of}
use Rattle.node_rules.specs.NodeStep.{Plan, begin_work, do_event, nodestep}
use Rattle.node_rules.specs.Refusals.{refusal}
use Rattle.node_rules.specs.Work.{Outcome, Goes, Differs as differs}
use Rattle.cluster_rules.specs.ClusterStep.{left_of}
use Rattle.home.specs.CallLaws.{told_on, rule_stop}
use Rattle.node_parts.specs.Comes.{Comes, work_of}
use Rattle.node_parts.specs.Outputs.{OutputsView}
use Rattle.node_parts.specs.State.{PartsView, AreParts, node_of}
use Rattle.node_parts.specs.declared.fault.StepFault.{StepFault}
use Rattle.node_parts.specs.declared.fault.StepFault.TheVariants.{NoMemory}
use Rattle.page_owner.specs.Carry.{HasSame, halted_by}
use Rattle.step_ends.specs.Ran.{Stand, Ran, OthersStayArmed, armed_at}
use Rattle.step_laws.proofs.Outcomes.{On}
use Rattle.node_core.specs.Came.{Came}
use Rattle.node_core.specs.Steps.{IsStep, IsStepFault, Seen, stand}
use Rattle.node_core.proofs.Coming.{Ended, came_part}
use Rattle.node_core.proofs.OwnerCalls.{Same}
use Rattle.node_core.proofs.Running.{Ends, KeepsAs, begun, planned, ran_part, others_same, told_is, wanting}

-- a step that refuses its event, or wants memory
module _ (n : NodeState) (event : NodeEvent) (out : OutputsView) (old : Seen) (sizes : HasSizes n.home.config old.told.pages old.told.logs old.rooms) where
  want : (d : Disk) (stops : List (Option Stop)) (o : Outcome Plan) (before after : Stand) → Ran {T = Unit {0}} (number_of n) d stops o (Err NoMemory) before after
  want d stops (Goes p) before after = wanting (number_of n) d stops p (left_of (number_of n) d p.calls (option_map rule_stop (armed_at stops (number_of n)))) before after
  want d stops (differs p e f) before after = tt

  came_not : (d : Disk) (o : Outcome Plan) (before after : Stand) → Came {T = Unit {0}} (number_of n) d o (Err NoMemory) before after
  came_not d (Goes p) before after = tt
  came_not d (differs p e f) before after = tt

  pub step_wants : (after : OutputsView) → HasSame out after → IsStep n event out old (Err NoMemory) n after old
  step_wants after same = record {
    came = λ d pages logs. came_not d (nodestep n event d) (stand n out old.told) (stand n after old.told);
    ran = λ d stops l pages logs armed calm. want d stops (nodestep n event d) (stand n out old.told) (stand n after old.told);
    memory = λ is. (refl, same, refl);
    config = refl;
    number = refl;
    fault = tt;
    sizes = sizes;
    others = λ d pages logs. others_same (number_of n) old.told old.told refl;
    calm = λ l is. is;
    quiet = λ l is. (λ e. absurd (cc), λ e. absurd (cc));
    counts = λ k. omega arith;
    cause = λ k e. absurd (cc);
  }

-- a storage that tells the same
pub sizes_same : (c : Sizes) (p q : Pages) (l k : Logs) (o u : Rooms) → q ≡ p → k ≡ l → u ≡ o → HasSizes c p l o → HasSizes c q k u
sizes_same c p q l k o u pages logs rooms sizes =
    subst (λ z. HasSizes c q k z) (sym rooms) (subst (λ z. HasSizes c q z o) (sym logs) (subst (λ z. HasSizes c z l o) (sym pages) sizes))

-- a step whose event isn't refused, from what its part says of the rule, of the changing calls and of the
-- reading ones
module _ (v later : PartsView) (out after : OutputsView) (old new : Seen) (r : Result (Unit {0}) StepFault) (parts : AreParts v) (replies : out.replies ≡ []) (sends : out.sends ≡ []) where
  abbrev n : NodeState
  n = node_of v

  abbrev m : NodeState
  m = node_of later

  calm_as : ((l : List (Option ℕ)) → NoneFails old.failing v.me l → NoneFails new.failing v.me l) → (l : List (Option ℕ)) → NoneFails old.failing (number_of n) l → NoneFails new.failing (number_of n) l
  calm_as calm l is = subst (λ k. NoneFails new.failing k l) parts.number (calm l (subst (λ k. NoneFails old.failing k l) (sym parts.number) is))

  pub step_of : (event : NodeEvent) (calls : Disk → List DiskCall) (ps : Disk → List (List ℕ)) → refusal n event ≡ None
      → ((d : Disk) → old.told.pages ≡ Some d.pages → old.told.logs ≡ Some d.logs → Comes (do_event d event (work_of n d.pages [] out)) r (work_of m (ps d) (calls d) after))
      → ((d : Disk) → old.told.pages ≡ Some d.pages → old.told.logs ≡ Some d.logs → old.told ≡ told_on d old.told.stops → Ended (number_of n) d r (calls d) old.told new.told)
      → ((d : Disk) (l : List (Option ℕ)) → old.told.pages ≡ Some d.pages → old.told.logs ≡ Some d.logs → NoneFails old.failing v.me l → Ends (number_of n) r (calls d) old.told new.told)
      → ((d : Disk) → On (Same (calls d)) (do_event d event (begin_work n d)))
      → ((d : Disk) (stops : List (Option Stop)) (l : List (Option ℕ)) → old.told.logs ≡ Some d.logs → old.told.stops ≡ Some stops → NoneFails old.failing v.me l → KeepsAs (number_of n) d stops r (calls d))
      → (r ≡ Err NoMemory → (m ≡ n) × HasSame out after × (new.told ≡ old.told)) → (m.home.config ≡ n.home.config) × (number_of m ≡ number_of n) → IfErr r IsStepFault
      → HasSizes n.home.config new.told.pages new.told.logs new.rooms → ((d : Disk) → old.told.pages ≡ Some d.pages → old.told.logs ≡ Some d.logs → OthersStayArmed (number_of n) old.told.stops new.told.stops)
      → ((l : List (Option ℕ)) → NoneFails old.failing v.me l → NoneFails new.failing v.me l)
      → ((l : List (Option ℕ)) → NoneFails old.failing v.me l → (halted_by r ≢ Some call.Read) × (halted_by r ≢ Some call.Log))
      → ((k : Call) → old.faults k ≤ new.faults k) → ((k : Call) → halted_by r ≡ Some k → Rose (old.faults k) (new.faults k))
      → IsStep n event out old r m after new
  step_of event calls ps none comes ended ends same keeps memory node fault sizes others calm quiet counts cause = record {
    came = λ d pages logs.
        subst (λ o. Came (number_of n) d o r (stand n out old.told) (stand m after new.told)) (sym (planned n event d none))
        (came_part (number_of n) d n m out after old.told new.told (ps d) (calls d) (do_event d event (begin_work n d)) r replies sends
        (subst (λ w. Comes (do_event d event w) r (work_of m (ps d) (calls d) after)) (begun n d out replies sends) (comes d pages logs))
        (ended d pages logs (λ i. record { pages = pages i; logs = logs i; stops = old.told.stops })) (same d));
    ran = λ d stops l pages logs armed calm.
        subst (λ o. Ran (number_of n) d stops o r (stand n out old.told) (stand m after new.told)) (sym (planned n event d none))
        (ran_part (number_of n) d stops n m out after old.told new.told (ps d) (calls d) (do_event d event (begin_work n d)) r replies sends
        (subst (λ w. Comes (do_event d event w) r (work_of m (ps d) (calls d) after)) (begun n d out replies sends) (comes d pages logs))
        (subst (λ t. Ends (number_of n) r (calls d) t new.told) (told_is old.told d stops pages logs armed) (ends d l pages logs (mine l calm)))
        (same d)
        (keeps d stops l logs armed (mine l calm)));
    memory = memory;
    config = node.0;
    number = node.1;
    fault = fault;
    sizes = sizes;
    others = others;
    calm = calm_as calm;
    quiet = λ l is. quiet l (mine l is);
    counts = counts;
    cause = cause;
  }
    where
      mine : (l : List (Option ℕ)) → NoneFails old.failing (number_of n) l → NoneFails old.failing v.me l
      mine l is = subst (λ k. NoneFails old.failing k l) (sym parts.number) is
