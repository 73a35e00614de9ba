-- What an install, or a report, answers.
use Rattle.std.proofs.Common.{inl, inr, ◌≡◌, ℕ, List, [], Result, Ok, Err, refl, sym, subst, ◌∙◌, append-nil}
use Rattle.std.specs.Prelude.{◌⊎◌, IfErr}
use Rattle.pcl_base.specs.declared.trace.Call.TheVariants as call
use Rattle.node_rules.specs.DiskCalls.{DiskCall}
use Rattle.node_rules.specs.Work.{Outcome, Work, Goes, Differs as differs}
use Rattle.disk_model.specs.Disk.{Pages, Logs, Rooms, NotLowered}
use Rattle.disk_model.specs.Stops.{Stops}
use Rattle.home.specs.Device.{Told, told_by}
use Rattle.node_parts.specs.Comes.{Comes}
use Rattle.node_parts.specs.declared.fault.StepFault.{StepFault}
use Rattle.node_parts.specs.declared.fault.StepFault.TheVariants.{NoMemory, Halted, Differs}
use Rattle.install_plans.specs.Plans.{IsCallFault, IsPlanFault}
use Rattle.partition_steps.specs.Carried.{IsCarryFault, LeavesWrites}
use Rattle.install_steps.specs.Calls.{IsInstallFault, IsReportFault, IsWorkFault, LeavesCalls, UnlessWanting}

-- a fault of the work is one of the install
pub work_is_install : {X : Type 0} (r : Result X StepFault) → IfErr r IsWorkFault → IfErr r IsInstallFault
work_is_install (Ok x) is = tt
work_is_install (Err NoMemory) is = absurd is
work_is_install (Err (Halted call.Read kept)) is = is
work_is_install (Err (Halted call.Log kept)) is = is
work_is_install (Err (Halted call.Write kept)) is = is
work_is_install (Err (Halted call.Force kept)) is = is
work_is_install (Err (Halted call.Trim kept)) is = is
work_is_install (Err (Halted call.Cut kept)) is = is
work_is_install (Err (Differs a b e)) is = is

-- a fact that is known
pub unless_known : {X : Type 0} (r : Result X StepFault) (P : Type 0) → P → UnlessWanting r P
unless_known (Ok x) P p = p
unless_known (Err NoMemory) P p = tt
unless_known (Err (Halted k kept)) P p = p
unless_known (Err (Differs a b e)) P p = p

-- a fault of a call that only reads is one of the install
pub call_is_install : (f : StepFault) → IsCallFault f → IsInstallFault f
call_is_install NoMemory is = tt
call_is_install (Halted call.Read kept) is = is.1
call_is_install (Halted call.Log kept) is = is.1
call_is_install (Halted call.Write kept) is = is.1
call_is_install (Halted call.Trim kept) is = is.1
call_is_install (Halted call.Force kept) is = no is.0
  where
    no : (call.Force ≡ call.Read) ⊎ (call.Force ≡ call.Log) → ⊥
    no (inl e) = absurd (cc)
    no (inr e) = absurd (cc)
call_is_install (Halted call.Cut kept) is = no is.0
  where
    no : (call.Cut ≡ call.Read) ⊎ (call.Cut ≡ call.Log) → ⊥
    no (inl e) = absurd (cc)
    no (inr e) = absurd (cc)
call_is_install (Differs a b e) is = absurd is

-- it says nothing of the rule
pub call_comes : (X : Type 0) (o : Outcome Work) (f : StepFault) (w : Work) → IsCallFault f → Comes {T = X} o (Err f) w
call_comes X (Goes k) NoMemory w is = tt
call_comes X (Goes k) (Halted c kept) w is = tt
call_comes X (Goes k) (Differs a b e) w is = absurd is
call_comes X (differs p e d) NoMemory w is = tt
call_comes X (differs p e d) (Halted c kept) w is = tt
call_comes X (differs p e d) (Differs a b k) w is = absurd is

-- and nothing was made before it
pub call_leaves : (X : Type 0) (me : ℕ) (f : StepFault) (calls : List DiskCall) (old new : Told) → IsCallFault f → new ≡ old → LeavesCalls {T = X} me (Err f) calls old new
call_leaves X me NoMemory calls old new is same = same
call_leaves X me (Halted call.Read kept) calls old new is same = record { first = []; rest = calls; all = refl; made = same }
call_leaves X me (Halted call.Log kept) calls old new is same = record { first = []; rest = calls; all = refl; made = same }
call_leaves X me (Halted call.Write kept) calls old new is same = absurd (no is.0)
  where
    no : (call.Write ≡ call.Read) ⊎ (call.Write ≡ call.Log) → ⊥
    no (inl e) = absurd (cc)
    no (inr e) = absurd (cc)
call_leaves X me (Halted call.Force kept) calls old new is same = absurd (no is.0)
  where
    no : (call.Force ≡ call.Read) ⊎ (call.Force ≡ call.Log) → ⊥
    no (inl e) = absurd (cc)
    no (inr e) = absurd (cc)
call_leaves X me (Halted call.Trim kept) calls old new is same = absurd (no is.0)
  where
    no : (call.Trim ≡ call.Read) ⊎ (call.Trim ≡ call.Log) → ⊥
    no (inl e) = absurd (cc)
    no (inr e) = absurd (cc)
call_leaves X me (Halted call.Cut kept) calls old new is same = absurd (no is.0)
  where
    no : (call.Cut ≡ call.Read) ⊎ (call.Cut ≡ call.Log) → ⊥
    no (inl e) = absurd (cc)
    no (inr e) = absurd (cc)
call_leaves X me (Differs a b e) calls old new is same = absurd is

-- the same is told
pub told_same : (pages later : Pages) (logs more : Logs) (stops last : Stops) → later ≡ pages → more ≡ logs → last ≡ stops → told_by later more last ≡ told_by pages logs stops
told_same pages later logs more stops last p l s = λ i. told_by (p i) (l i) (s i)

pub rooms_same : (old new : Rooms) → new ≡ old → NotLowered old new
rooms_same old new same = subst (NotLowered old) (sym same) (record { kept = λ node n has. has; many = λ n are. are })

pub rooms_later : (old mid new : Rooms) → mid ≡ old → NotLowered mid new → NotLowered old new
rooms_later old mid new same is = subst (λ r. NotLowered r new) same is

-- a fault of carrying is one of a report
pub carry_is_report : (f : StepFault) → IsCarryFault f → IsReportFault f
carry_is_report NoMemory is = tt
carry_is_report (Halted k kept) is = is
carry_is_report (Differs a b e) is = λ same. is (sym same)

-- what became of the calls of a plan
pub writes_leave : {X : Type 0} (me : ℕ) (r : Result X StepFault) (calls : List DiskCall) (old new : Told) → LeavesWrites me r calls old new → LeavesCalls me r calls old new
writes_leave me (Ok x) calls old new made = made
writes_leave me (Err NoMemory) calls old new made = made
writes_leave me (Err (Halted k kept)) calls old new made = made
writes_leave me (Err (Differs a b e)) calls old new made = record { first = calls; rest = []; all = append-nil calls; made = made }

-- a fault of a planning is one of a report, and nothing was made before it
pub plan_is_report : (f : StepFault) → IsPlanFault f → IsReportFault f
plan_is_report NoMemory is = tt
plan_is_report (Halted k kept) is = (inl is.0, is.1)
plan_is_report (Differs a b e) is = λ same. is.1 (sym same ∙ is.0)

pub plan_leaves : (X : Type 0) (me : ℕ) (f : StepFault) (calls : List DiskCall) (old new : Told) → IsPlanFault f → new ≡ old → LeavesCalls {T = X} me (Err f) calls old new
plan_leaves X me NoMemory calls old new is same = same
plan_leaves X me (Halted k kept) calls old new is same = call_leaves X me (Halted k kept) calls old new is same
plan_leaves X me (Differs a b e) calls old new is same = record { first = []; rest = calls; all = refl; made = same }

-- a fault of carrying isn't want of memory
pub carry_never : {X : Type 0} (r : Result X StepFault) → IfErr r IsCarryFault → r ≡ Err NoMemory → ⊥
carry_never (Ok x) is e = absurd (cc)
carry_never (Err NoMemory) is e = is
carry_never (Err (Halted k kept)) is e = absurd (cc)
carry_never (Err (Differs a b k)) is e = absurd (cc)
