-- How a step ends, from what its part says of the rule and of the changing calls.
use Rattle.std.proofs.Common.{◌≡◌, refl, ap, sym, subst, ℕ, ◌++◌, List, [], Option, Some, None, option_map, Result, Ok, Err}
use Rattle.std.specs.Prelude.{⊤}
use Rattle.pcl_base.specs.declared.reply.Reason.{Reason}
use Rattle.pcl_base.specs.declared.reply.Reply.TheVariants as reply
use Rattle.pcl_base.specs.declared.trace.Call.{Call}
use Rattle.pcl_base.specs.declared.tx.TxId.{TxId}
use Rattle.run_rules.specs.Disk.{Disk}
use Rattle.disk_model.specs.declared.stop.Stop.{Stop}
use Rattle.node_rules.specs.DiskCalls.{DiskCall, Left}
use Rattle.node_rules.specs.NodeState.{NodeState, NodeEvent}
use Rattle.node_rules.specs.NodeStep.{Plan, begin_work, do_event, nodestep, plan_of, unless_refused}
use Rattle.node_rules.specs.Refusals.{refusal}
use Rattle.node_rules.specs.Work.{Work, Outcome, Goes, Differs as differs, and_so, reply}
use Rattle.cluster_rules.specs.ClusterStep.{left_of}
use Rattle.home.specs.CallLaws.{told_on, rule_stop}
use Rattle.home.specs.Device.{Told, Made}
use Rattle.node_parts.specs.Comes.{Comes, work_of}
use Rattle.node_parts.specs.Outputs.{OutputsView}
use Rattle.node_parts.specs.declared.fault.StepFault.{StepFault}
use Rattle.node_parts.specs.declared.fault.StepFault.TheVariants.{NoMemory, Halted, Differs}
use Rattle.step_ends.specs.Laws.{KeepsTx}
use Rattle.step_ends.specs.Ran.{Stand, Ran, RanPlan, OthersStayArmed, armed_at}
use Rattle.step_ends.proofs.Armed.{others_are_left}
use Rattle.step_ends.proofs.Ends.{made_is_ran, failed_is_halted, failed_is_armed}
use Rattle.step_laws.proofs.Outcomes.{On}
use Rattle.node_core.specs.Steps.{stand}
use Rattle.node_core.proofs.Forceless.{ForceNone, keeps_none}
use Rattle.node_core.proofs.OwnerCalls.{Same}

-- what became of the changing calls of node me by a step's answer, where no reading call fails
abbrev pub Ends : {T : Type 0} → ℕ → Result T StepFault → List DiskCall → Told → Told → Type 0
Ends me (Ok x) calls old new = Made me calls old None new
Ends me (Err (Halted k kept)) calls old new = Made me calls old (Some k) new
Ends me (Err (Differs page expected found)) calls old new = ⊤
Ends me (Err NoMemory) calls old new = ⊤

-- a transaction that a halt keeps is the one that the armed stop leaves of these calls
abbrev pub KeepsAs : {T : Type 0} → ℕ → Disk → List (Option Stop) → Result T StepFault → List DiskCall → Type 0
KeepsAs me d stops (Err (Halted k kept)) calls = KeepsTx me d calls stops kept
KeepsAs me d stops r calls = ⊤

-- want of memory ends any plan
pub wanting : (me : ℕ) (d : Disk) (stops : List (Option Stop)) (p : Plan) (o : Option Left) (before after : Stand) → RanPlan {T = Unit {0}} me d stops p o (Err NoMemory) before after
wanting me d stops p None before after = tt
wanting me d stops p (Some l) before after = tt

module _ (me : ℕ) (d : Disk) (stops : List (Option Stop)) (n later : NodeState) (out after : OutputsView) (told new : Told) (ps : List (List ℕ)) (calls : List DiskCall) where
  made : (r : Result (Unit {0}) StepFault) (w : Work) → out.replies ≡ [] → out.sends ≡ [] → Comes (Goes w) r (work_of later ps calls after) → Ends me r calls (told_on d (Some stops)) new
      → w.calls ≡ calls → KeepsAs me d stops r calls → Ran me d stops (Goes (plan_of w)) r (stand n out told) (stand later after new)
  made (Ok x) w replies sends comes ends same keeps =
      subst (λ (z : Work). Ran me d stops (Goes (plan_of z)) (Ok x) (stand n out told) (stand later after new)) (sym comes)
      (made_is_ran me d stops (plan_of (work_of later ps calls after)) (stand n out told) (stand later after new) refl
      (ap (λ l. l ++ after.replies) (sym replies)) (ap (λ l. l ++ after.sends) (sym sends)) ends)
  made (Err NoMemory) w replies sends comes ends same keeps =
      wanting me d stops (plan_of w) (left_of me d w.calls (option_map rule_stop (armed_at stops me))) (stand n out told) (stand later after new)
  made (Err (Differs page expected found)) w replies sends comes ends same keeps = absurd comes
  made (Err (Halted k kept)) w replies sends comes ends same keeps =
      failed_is_halted me d stops (plan_of w) k kept (stand n out told) (stand later after new)
      (subst (λ l. Made me l (told_on d (Some stops)) (Some k) new) (sym same) ends) (subst (λ l. KeepsTx me d l stops kept) (sym same) keeps)

  -- a part of a step that comes to its rule
  pub ran_part : (o : Outcome Work) (r : Result (Unit {0}) StepFault) → out.replies ≡ [] → out.sends ≡ [] → Comes o r (work_of later ps calls after) → Ends me r calls (told_on d (Some stops)) new
      → On (Same calls) o → KeepsAs me d stops r calls → Ran me d stops (and_so o plan_of) r (stand n out told) (stand later after new)
  ran_part (Goes w) r replies sends comes ends same keeps = made r w replies sends comes ends same keeps
  ran_part (differs p e f) (Ok x) replies sends comes ends same keeps = absurd comes
  ran_part (differs p e f) (Err NoMemory) replies sends comes ends same keeps = tt
  ran_part (differs p e f) (Err (Differs page expected found)) replies sends comes ends same keeps = comes
  ran_part (differs p e f) (Err (Halted k kept)) replies sends comes ends same keeps = failed_is_armed me calls d stops k new ends

-- where no halt names a transaction, and none is forced, none is kept
abbrev pub NamesNone : {T : Type 0} → Result T StepFault → Type 0
NamesNone (Err (Halted k kept)) = kept ≡ None
NamesNone r = ⊤

pub names_as : (me : ℕ) (d : Disk) (stops : List (Option Stop)) (r : Result (Unit {0}) StepFault) (calls : List DiskCall) → ForceNone calls → NamesNone r → KeepsAs me d stops r calls
names_as me d stops (Ok x) calls all names = tt
names_as me d stops (Err NoMemory) calls all names = tt
names_as me d stops (Err (Differs q e f)) calls all names = tt
names_as me d stops (Err (Halted k kept)) calls all names = subst (λ (z : Option TxId). KeepsTx me d calls stops z) (sym names) (keeps_none me d calls stops all)

-- the plan of an event that isn't refused
pub planned : (n : NodeState) (event : NodeEvent) (d : Disk) → refusal n event ≡ None → nodestep n event d ≡ and_so (do_event d event (begin_work n d)) plan_of
unfolding nodestep
planned n event d none = ap (λ (o : Option Reason). and_so (unless_refused o d event (begin_work n d)) plan_of) none

-- the plan of one that is
pub refused_plan : (n : NodeState) (event : NodeEvent) (d : Disk) (r : Reason) → refusal n event ≡ Some r → nodestep n event d ≡ Goes (plan_of (reply (reply.Refused r) (begin_work n d)))
unfolding nodestep
refused_plan n event d r some = ap (λ (o : Option Reason). and_so (unless_refused o d event (begin_work n d)) plan_of) some

-- a step begins with empty outputs
pub begun : (n : NodeState) (d : Disk) (out : OutputsView) → out.replies ≡ [] → out.sends ≡ [] → work_of n d.pages [] out ≡ begin_work n d
begun n d out replies sends = λ i. record { node = n; pages = d.pages; calls = []; replies = replies i; sends = sends i }

-- what is told where pages, logs and stops are
pub told_is : (t : Told) (d : Disk) (stops : List (Option Stop)) → t.pages ≡ Some d.pages → t.logs ≡ Some d.logs → t.stops ≡ Some stops → t ≡ told_on d (Some stops)
told_is t d stops pages logs armed = λ i. record { pages = pages i; logs = logs i; stops = armed i }

-- whatever is told, changing calls leave the stops of others; so does a step without calls
pub others_of : (me : ℕ) (calls : List DiskCall) (old : Told) (o : Option Call) (new : Told) → Made me calls old o new → OthersStayArmed me old.stops new.stops
others_of me calls old o new made = others_are_left me calls old o new made

pub others_same : (me : ℕ) (old new : Told) → new ≡ old → OthersStayArmed me old.stops new.stops
others_same me old new same = others_are_left me [] old None new same
