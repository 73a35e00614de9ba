-- What a step comes to, whatever calls fail, from what its part says of the rule and of the changing calls.
use Rattle.std.proofs.Common.{◌≡◌, inr, refl, ap, sym, subst, ◌∙◌, ℕ, ◌++◌, List, [], ◌∷◌, take, length, Option, Some, None, Result, Ok, Err}
use Rattle.std.specs.Prelude.{IfErr, ⊤}
use Rattle.std.specs.List.{fold}
use Rattle.pcl_base.specs.declared.trace.Call.{Call}
use Rattle.pcl_base.specs.declared.trace.Call.TheVariants as call
use Rattle.pcl_base.specs.declared.tx.TxId.{TxId}
use Rattle.run_rules.specs.Disk.{Disk}
use Rattle.disk_model.specs.Stops.{Stops}
use Rattle.node_rules.specs.DiskCalls.{DiskCall, forced}
use Rattle.node_rules.specs.NodeState.{NodeState}
use Rattle.node_rules.specs.NodeStep.{plan_of}
use Rattle.node_rules.specs.Work.{Work, Outcome, Goes, Differs as differs, and_so}
use Rattle.home.specs.CallLaws.{told_on}
use Rattle.home.specs.Device.{Told, Made}
use Rattle.home.proofs.Stopping.{failed_are_stopped}
use Rattle.node_parts.specs.Comes.{Comes, work_of}
use Rattle.node_parts.specs.Outputs.{OutputsView}
use Rattle.node_parts.specs.declared.fault.StepFault.{StepFault}
use Rattle.node_parts.specs.declared.fault.StepFault.TheVariants.{NoMemory, Halted, Differs}
use Rattle.page_owner.specs.Released as owner
use Rattle.page_owner.specs.Released.{IsReleaseFault}
use Rattle.own_steps.specs.Calls.{LeavesCalls}
use Rattle.cut_step.specs.Cuts.{IsFrontFault, LeavesFront, cut_calls}
use Rattle.step_laws.proofs.Outcomes.{On}
use Rattle.node_core.specs.Came.{Breaks, BreaksOff, Came, FailsAt, IsDone}
use Rattle.node_core.specs.Steps.{stand}
use Rattle.node_core.proofs.Forceless.{ForceNone, none_forced}
use Rattle.node_core.proofs.OwnerCalls.{Same}
use Rattle.node_core.proofs.Running.{NamesNone}

-- what became of the changing calls of node me by a step's answer
abbrev pub Ended : {T : Type 0} → ℕ → Disk → Result T StepFault → List DiskCall → Told → Told → Type 0
Ended me d (Ok x) calls old new = Made me calls old None new
Ended me d (Err (Halted k kept)) calls old new = Breaks me d calls k kept old new
Ended me d (Err (Differs page expected found)) calls old new = (xs : List DiskCall) × Made me xs old None new
Ended me d (Err NoMemory) calls old new = ⊤

module _ (me : ℕ) (d : Disk) (n later : NodeState) (out after : OutputsView) (told new : Told) (ps : List (List ℕ)) (calls : List DiskCall) where
  -- a part of a step that comes to its rule
  pub came_part : (o : Outcome Work) (r : Result (Unit {0}) StepFault) → out.replies ≡ [] → out.sends ≡ [] → Comes o r (work_of later ps calls after) → Ended me d r calls told new → On (Same calls) o
      → Came me d (and_so o plan_of) r (stand n out told) (stand later after new)
  came_part (Goes w) (Ok x) replies sends comes ended same =
      subst (λ (z : Work). IsDone me (plan_of z) (stand n out told) (stand later after new)) (sym comes)
      (record { node = refl; replies = ap (λ l. l ++ after.replies) (sym replies); sends = ap (λ l. l ++ after.sends) (sym sends); made = ended })
  came_part (Goes w) (Err NoMemory) replies sends comes ended same = tt
  came_part (Goes w) (Err (Differs page expected found)) replies sends comes ended same = absurd comes
  came_part (Goes w) (Err (Halted k kept)) replies sends comes ended same = subst (λ l. Breaks me d l k kept told new) (sym same) ended
  came_part (differs p e f) (Ok x) replies sends comes ended same = absurd comes
  came_part (differs p e f) (Err NoMemory) replies sends comes ended same = tt
  came_part (differs p e f) (Err (Differs page expected found)) replies sends comes ended same = (comes, ended)
  came_part (differs p e f) (Err (Halted k kept)) replies sends comes ended same = (calls, ended)

take_all : {X : Type 0} (xs : List X) → take (length xs) xs ≡ xs
take_all [] = refl
take_all (x ∷ xs) = ap (λ l. x ∷ l) (take_all xs)

-- a reading call failed after all of them, or before
module _ (me : ℕ) (calls : List DiskCall) (kept : Option TxId) (old new : Told) where
  pub broke_after : Made me calls old None new → kept ≡ fold forced None calls → BreaksOff me calls kept old new
  broke_after made names = record {
    count = length calls;
    made = subst (λ l. Made me l old None new) (sym (take_all calls)) made;
    names = names ∙ ap (λ l. fold forced None l) (sym (take_all calls));
  }

  pub broke_before : new ≡ old → kept ≡ None → BreaksOff me calls kept old new
  broke_before same names = record { count = 0; made = same; names = names }

-- a changing call failed, and the halt names nobody
pub failed_at : (me : ℕ) (d : Disk) (calls : List DiskCall) (k : Call) (kept : Option TxId) (stops : Stops) (old new : Told) → old ≡ told_on d stops → kept ≡ None → Made me calls old (Some k) new
    → FailsAt me d calls k kept old new
failed_at me d calls k kept stops old new told names made =
    let some = failed_are_stopped me calls d stops k new (subst (λ t. Made me calls t (Some k) new) told made) in
    record { made = made; stop = some.0; left = some.1; leaves = some.2; same_call = some.3; disk = some.4; names = inr names }

module _ (me : ℕ) (d : Disk) (calls : List DiskCall) (stops : Stops) (old new : Told) (told : old ≡ told_on d stops) (all : ForceNone calls) where
  pub own_ended : (r : Result (Unit {0}) StepFault) → LeavesCalls me r calls old new → NamesNone r → Ended me d r calls old new
  own_ended (Ok x) left names = left
  own_ended (Err NoMemory) left names = tt
  own_ended (Err (Differs p expected found)) left names = (calls, left)
  own_ended (Err (Halted call.Read kept)) left names = broke_after me calls kept old new left (names ∙ sym (none_forced calls all))
  own_ended (Err (Halted call.Log kept)) left names = broke_before me calls kept old new left names
  own_ended (Err (Halted call.Write kept)) left names = failed_at me d calls call.Write kept stops old new told names left
  own_ended (Err (Halted call.Force kept)) left names = failed_at me d calls call.Force kept stops old new told names left
  own_ended (Err (Halted call.Trim kept)) left names = failed_at me d calls call.Trim kept stops old new told names left
  own_ended (Err (Halted call.Cut kept)) left names = failed_at me d calls call.Cut kept stops old new told names left

  pub owner_ended : (r : Result (Unit {0}) StepFault) → owner.LeavesCalls me r calls old new → IfErr r IsReleaseFault → NamesNone r → Ended me d r calls old new
  owner_ended (Ok x) left fault names = left
  owner_ended (Err NoMemory) left fault names = tt
  owner_ended (Err (Differs p expected found)) left fault names = (calls, left)
  owner_ended (Err (Halted call.Write kept)) left fault names = failed_at me d calls call.Write kept stops old new told names left.1
  owner_ended (Err (Halted call.Read kept)) left fault names = broke_after me calls kept old new left (names ∙ sym (none_forced calls all))
  owner_ended (Err (Halted call.Log kept)) left fault names = absurd (cc fault.0)
  owner_ended (Err (Halted call.Force kept)) left fault names = absurd (cc fault.0)
  owner_ended (Err (Halted call.Trim kept)) left fault names = absurd (cc fault.0)
  owner_ended (Err (Halted call.Cut kept)) left fault names = absurd (cc fault.0)

-- a cut of so many bytes
pub front_ended : (me count : ℕ) (d : Disk) (stops : Stops) (old new : Told) → old ≡ told_on d stops → (r : Result (Unit {0}) StepFault) → LeavesFront me count r old new → IfErr r IsFrontFault → NamesNone r
    → Ended me d r (cut_calls count) old new
front_ended me count d stops old new told (Ok x) left fault names = left
front_ended me count d stops old new told (Err NoMemory) left fault names = tt
front_ended me count d stops old new told (Err (Differs p expected found)) left fault names = ([], left)
front_ended me count d stops old new told (Err (Halted call.Cut kept)) left fault names = failed_at me d (cut_calls count) call.Cut kept stops old new told names left
front_ended me count d stops old new told (Err (Halted call.Read kept)) left fault names = broke_before me (cut_calls count) kept old new left names
front_ended me count d stops old new told (Err (Halted call.Log kept)) left fault names = broke_before me (cut_calls count) kept old new left names
front_ended me count d stops old new told (Err (Halted call.Write kept)) left fault names = absurd fault
front_ended me count d stops old new told (Err (Halted call.Force kept)) left fault names = absurd fault
front_ended me count d stops old new told (Err (Halted call.Trim kept)) left fault names = absurd fault
