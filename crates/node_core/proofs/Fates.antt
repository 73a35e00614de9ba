-- What became of the changing calls of a step, by what each part says of them.
use Rattle.std.proofs.Common.{◌≢◌, refl, sym, ℕ, List, Some, None, Result, Ok, Err}
use Rattle.std.specs.Prelude.{IfErr}
use Rattle.pcl_base.specs.declared.trace.Call.TheVariants as call
use Rattle.node_rules.specs.DiskCalls.{DiskCall}
use Rattle.home.specs.Device.{Told}
use Rattle.node_parts.specs.declared.fault.StepFault.{StepFault}
use Rattle.node_parts.specs.declared.fault.StepFault.TheVariants.{NoMemory, Halted, Differs}
use Rattle.page_owner.specs.Carry.{IsTakeFault, halted_by}
use Rattle.page_owner.specs.Released as owner
use Rattle.page_owner.specs.Released.{IsReleaseFault}
use Rattle.own_steps.specs.Calls.{IsAccessFault, IsWriteFault, LeavesCalls}
use Rattle.cut_step.specs.Cuts.{IsFrontFault, LeavesFront, cut_calls}
use Rattle.step_ends.specs.Ran.{OthersStayArmed}
use Rattle.node_core.specs.Steps.{IsStepFault}
use Rattle.node_core.proofs.Running.{Ends, NamesNone, others_of, others_same}

-- no reading call ended the step
abbrev pub IsQuiet : {T : Type 0} → Result T StepFault → Type 0
IsQuiet r = (halted_by r ≢ Some call.Read) × (halted_by r ≢ Some call.Log)

-- the node's own events
module _ (me : ℕ) (calls : List DiskCall) (old new : Told) where
  pub own_ends : (r : Result (Unit {0}) StepFault) → LeavesCalls me r calls old new → IsQuiet r → Ends me r calls old new
  own_ends (Ok x) left quiet = left
  own_ends (Err NoMemory) left quiet = tt
  own_ends (Err (Differs p expected found)) left quiet = tt
  own_ends (Err (Halted call.Read kept)) left quiet = absurd (quiet.0 refl)
  own_ends (Err (Halted call.Log kept)) left quiet = absurd (quiet.1 refl)
  own_ends (Err (Halted call.Write kept)) left quiet = left
  own_ends (Err (Halted call.Force kept)) left quiet = left
  own_ends (Err (Halted call.Trim kept)) left quiet = left
  own_ends (Err (Halted call.Cut kept)) left quiet = left

  pub own_others : (r : Result (Unit {0}) StepFault) → LeavesCalls me r calls old new → OthersStayArmed me old.stops new.stops
  own_others (Ok x) left = others_of me calls old None new left
  own_others (Err NoMemory) left = others_same me old new left
  own_others (Err (Differs p expected found)) left = others_of me calls old None new left
  own_others (Err (Halted call.Read kept)) left = others_of me calls old None new left
  own_others (Err (Halted call.Log kept)) left = others_same me old new left
  own_others (Err (Halted call.Write kept)) left = others_of me calls old (Some call.Write) new left
  own_others (Err (Halted call.Force kept)) left = others_of me calls old (Some call.Force) new left
  own_others (Err (Halted call.Trim kept)) left = others_of me calls old (Some call.Trim) new left
  own_others (Err (Halted call.Cut kept)) left = others_of me calls old (Some call.Cut) new left

  -- messages
  pub owner_ends : (r : Result (Unit {0}) StepFault) → owner.LeavesCalls me r calls old new → IfErr r IsReleaseFault → halted_by r ≢ Some call.Read → Ends me r calls old new
  owner_ends (Ok x) left fault quiet = left
  owner_ends (Err NoMemory) left fault quiet = tt
  owner_ends (Err (Differs p expected found)) left fault quiet = tt
  owner_ends (Err (Halted call.Write kept)) left fault quiet = left.1
  owner_ends (Err (Halted call.Read kept)) left fault quiet = absurd (quiet refl)
  owner_ends (Err (Halted call.Log kept)) left fault quiet = absurd (cc fault.0)
  owner_ends (Err (Halted call.Force kept)) left fault quiet = absurd (cc fault.0)
  owner_ends (Err (Halted call.Trim kept)) left fault quiet = absurd (cc fault.0)
  owner_ends (Err (Halted call.Cut kept)) left fault quiet = absurd (cc fault.0)

  pub owner_others : (r : Result (Unit {0}) StepFault) → owner.LeavesCalls me r calls old new → OthersStayArmed me old.stops new.stops
  owner_others (Ok x) left = others_of me calls old None new left
  owner_others (Err NoMemory) left = others_same me old new left
  owner_others (Err (Differs p expected found)) left = others_of me calls old None new left
  owner_others (Err (Halted call.Write kept)) left = others_of me calls old (Some call.Write) new left.1
  owner_others (Err (Halted call.Read kept)) left = others_of me calls old None new left
  owner_others (Err (Halted call.Log kept)) left = others_of me calls old None new left
  owner_others (Err (Halted call.Force kept)) left = others_of me calls old None new left
  owner_others (Err (Halted call.Trim kept)) left = others_of me calls old None new left
  owner_others (Err (Halted call.Cut kept)) left = others_of me calls old None new left

-- a cut of so many bytes
module _ (me count : ℕ) (old new : Told) where
  pub front_ends : (r : Result (Unit {0}) StepFault) → LeavesFront me count r old new → IfErr r IsFrontFault → IsQuiet r → Ends me r (cut_calls count) old new
  front_ends (Ok x) left fault quiet = left
  front_ends (Err NoMemory) left fault quiet = tt
  front_ends (Err (Differs p expected found)) left fault quiet = tt
  front_ends (Err (Halted call.Cut kept)) left fault quiet = left
  front_ends (Err (Halted call.Read kept)) left fault quiet = absurd (quiet.0 refl)
  front_ends (Err (Halted call.Log kept)) left fault quiet = absurd (quiet.1 refl)
  front_ends (Err (Halted call.Write kept)) left fault quiet = absurd fault
  front_ends (Err (Halted call.Force kept)) left fault quiet = absurd fault
  front_ends (Err (Halted call.Trim kept)) left fault quiet = absurd fault

  pub front_others : (r : Result (Unit {0}) StepFault) → LeavesFront me count r old new → OthersStayArmed me old.stops new.stops
  front_others (Ok x) left = others_of me (cut_calls count) old None new left
  front_others (Err NoMemory) left = others_same me old new left
  front_others (Err (Differs p expected found)) left = others_same me old new left
  front_others (Err (Halted call.Cut kept)) left = others_of me (cut_calls count) old (Some call.Cut) new left
  front_others (Err (Halted call.Read kept)) left = others_same me old new left
  front_others (Err (Halted call.Log kept)) left = others_same me old new left
  front_others (Err (Halted call.Write kept)) left = others_same me old new left
  front_others (Err (Halted call.Force kept)) left = others_same me old new left
  front_others (Err (Halted call.Trim kept)) left = others_same me old new left

-- what each part's faults say
pub differ_sym : (a b : ℕ) → a ≢ b → b ≢ a
differ_sym a b unequal e = unequal (sym e)

pub write_step : (e : StepFault) → IsWriteFault e → IsStepFault e
write_step NoMemory fault = tt
write_step (Halted k kept) fault = tt
write_step (Differs p expected found) fault = absurd fault

pub access_step : (e : StepFault) → IsAccessFault e → IsStepFault e
access_step NoMemory fault = tt
access_step (Halted k kept) fault = tt
access_step (Differs p expected found) fault = differ_sym found expected fault

pub take_step : (e : StepFault) → IsTakeFault e → IsStepFault e
take_step NoMemory fault = tt
take_step (Halted k kept) fault = tt
take_step (Differs p expected found) fault = differ_sym found expected fault

pub release_step : (e : StepFault) → IsReleaseFault e → IsStepFault e
release_step NoMemory fault = tt
release_step (Halted k kept) fault = tt
release_step (Differs p expected found) fault = differ_sym found expected fault

pub front_step : (e : StepFault) → IsFrontFault e → IsStepFault e
front_step NoMemory fault = tt
front_step (Halted k kept) fault = tt
front_step (Differs p expected found) fault = fault

pub fault_as : (P Q : StepFault → Type 0) → ((e : StepFault) → P e → Q e) → (r : Result (Unit {0}) StepFault) → IfErr r P → IfErr r Q
fault_as P Q f (Ok x) fault = tt
fault_as P Q f (Err e) fault = f e fault

-- none of these faults names a transaction
pub write_names : (r : Result (Unit {0}) StepFault) → IfErr r IsWriteFault → NamesNone r
write_names (Ok x) fault = tt
write_names (Err NoMemory) fault = tt
write_names (Err (Differs p expected found)) fault = tt
write_names (Err (Halted call.Write kept)) fault = fault
write_names (Err (Halted call.Read kept)) fault = absurd fault
write_names (Err (Halted call.Log kept)) fault = absurd fault
write_names (Err (Halted call.Force kept)) fault = absurd fault
write_names (Err (Halted call.Trim kept)) fault = absurd fault
write_names (Err (Halted call.Cut kept)) fault = absurd fault

pub access_names : (r : Result (Unit {0}) StepFault) → IfErr r IsAccessFault → NamesNone r
access_names (Ok x) fault = tt
access_names (Err NoMemory) fault = tt
access_names (Err (Differs p expected found)) fault = tt
access_names (Err (Halted call.Write kept)) fault = fault
access_names (Err (Halted call.Read kept)) fault = fault
access_names (Err (Halted call.Log kept)) fault = absurd fault
access_names (Err (Halted call.Force kept)) fault = absurd fault
access_names (Err (Halted call.Trim kept)) fault = absurd fault
access_names (Err (Halted call.Cut kept)) fault = absurd fault

pub take_names : (r : Result (Unit {0}) StepFault) → IfErr r IsTakeFault → NamesNone r
take_names (Ok x) fault = tt
take_names (Err NoMemory) fault = tt
take_names (Err (Differs p expected found)) fault = tt
take_names (Err (Halted k kept)) fault = fault.1

pub release_names : (r : Result (Unit {0}) StepFault) → IfErr r IsReleaseFault → NamesNone r
release_names (Ok x) fault = tt
release_names (Err NoMemory) fault = tt
release_names (Err (Differs p expected found)) fault = tt
release_names (Err (Halted call.Write kept)) fault = fault
release_names (Err (Halted call.Read kept)) fault = fault.1
release_names (Err (Halted call.Log kept)) fault = fault.1
release_names (Err (Halted call.Force kept)) fault = fault.1
release_names (Err (Halted call.Trim kept)) fault = fault.1
release_names (Err (Halted call.Cut kept)) fault = fault.1

pub front_names : (r : Result (Unit {0}) StepFault) → IfErr r IsFrontFault → NamesNone r
front_names (Ok x) fault = tt
front_names (Err NoMemory) fault = tt
front_names (Err (Differs p expected found)) fault = tt
front_names (Err (Halted call.Cut kept)) fault = fault
front_names (Err (Halted call.Read kept)) fault = fault
front_names (Err (Halted call.Log kept)) fault = fault
front_names (Err (Halted call.Write kept)) fault = absurd fault
front_names (Err (Halted call.Force kept)) fault = absurd fault
front_names (Err (Halted call.Trim kept)) fault = absurd fault

-- and those that come of no log say so
pub write_quiet : (r : Result (Unit {0}) StepFault) → IfErr r IsWriteFault → IsQuiet r
write_quiet (Ok x) fault = (λ e. absurd (cc), λ e. absurd (cc))
write_quiet (Err NoMemory) fault = (λ e. absurd (cc), λ e. absurd (cc))
write_quiet (Err (Differs p expected found)) fault = absurd fault
write_quiet (Err (Halted call.Write kept)) fault = (λ e. absurd (cc), λ e. absurd (cc))
write_quiet (Err (Halted call.Read kept)) fault = absurd fault
write_quiet (Err (Halted call.Log kept)) fault = absurd fault
write_quiet (Err (Halted call.Force kept)) fault = absurd fault
write_quiet (Err (Halted call.Trim kept)) fault = absurd fault
write_quiet (Err (Halted call.Cut kept)) fault = absurd fault

pub access_not_log : (r : Result (Unit {0}) StepFault) → IfErr r IsAccessFault → halted_by r ≢ Some call.Log
access_not_log (Ok x) fault e = absurd (cc)
access_not_log (Err NoMemory) fault e = absurd (cc)
access_not_log (Err (Differs p expected found)) fault e = absurd (cc)
access_not_log (Err (Halted call.Write kept)) fault e = absurd (cc)
access_not_log (Err (Halted call.Read kept)) fault e = absurd (cc)
access_not_log (Err (Halted call.Log kept)) fault e = absurd fault
access_not_log (Err (Halted call.Force kept)) fault e = absurd fault
access_not_log (Err (Halted call.Trim kept)) fault e = absurd fault
access_not_log (Err (Halted call.Cut kept)) fault e = absurd fault

pub release_not_log : (r : Result (Unit {0}) StepFault) → IfErr r IsReleaseFault → halted_by r ≢ Some call.Log
release_not_log (Ok x) fault e = absurd (cc)
release_not_log (Err NoMemory) fault e = absurd (cc)
release_not_log (Err (Differs p expected found)) fault e = absurd (cc)
release_not_log (Err (Halted call.Write kept)) fault e = absurd (cc)
release_not_log (Err (Halted call.Read kept)) fault e = absurd (cc)
release_not_log (Err (Halted call.Log kept)) fault e = absurd (cc fault.0)
release_not_log (Err (Halted call.Force kept)) fault e = absurd (cc fault.0)
release_not_log (Err (Halted call.Trim kept)) fault e = absurd (cc fault.0)
release_not_log (Err (Halted call.Cut kept)) fault e = absurd (cc fault.0)
