-- A commit as a step: what its answer says once its home is done, or has failed.
use Rattle.std.proofs.Common.{◌≡◌, ◌≢◌, ℕ, List, Option, Some, None, Result, Ok, Err, refl, sym, subst, ◌∙◌}
use Rattle.std.specs.Prelude.{IfErr}
use Rattle.pcl_base.specs.declared.trace.Call.{Call}
use Rattle.pcl_base.specs.declared.trace.Call.TheVariants as call
use Rattle.pcl_base.specs.declared.tx.TxId.{TxId}
use Rattle.disk_model.specs.declared.stop.Stop.{Stop}
use Rattle.disk_model.specs.Disk.{Logs}
use Rattle.run_rules.specs.Disk.{Disk}
use Rattle.node_rules.specs.DiskCalls.{DiskCall}
use Rattle.node_rules.specs.NodeState.{HomeState}
use Rattle.home.specs.Commits.{commit_calls}
use Rattle.home.specs.Device.{Told}
use Rattle.node_parts.specs.declared.fault.StepFault.{StepFault}
use Rattle.node_parts.specs.declared.fault.StepFault.TheVariants as step
use Rattle.page_owner.specs.Carry.{IsReadHalt, halted_by}
use Rattle.own_steps.specs.Calls.{LeavesCalls}
use Rattle.own_steps.specs.Forced.{IsCommitFault, IsForceFault, LeavesRecord, NamesKept}

-- an answer with a fault says the same whatever it would say without one
module _ {X : Type 0} (r : Result X StepFault) (Y : Type 0) where
  leaves_err : (n : ℕ) (calls : List DiskCall) (old new : Told) (f : StepFault) → LeavesCalls {T = X} n (Err f) calls old new → LeavesCalls {T = Y} n (Err f) calls old new
  leaves_err n calls old new step.NoMemory left = left
  leaves_err n calls old new (step.Halted k kept) left = left
  leaves_err n calls old new (step.Differs p e f) left = left

  pub leaves_home : (t : TxId) (h k : HomeState) (old new : Told) (f : StepFault) → h ≡ k → LeavesCalls {T = X} h.txs.node (Err f) (commit_calls h t) old new
      → LeavesCalls {T = Y} k.txs.node (Err f) (commit_calls k t) old new
  leaves_home t h k old new f is left =
      leaves_err k.txs.node (commit_calls k t) old new f (subst (λ (z : HomeState). LeavesCalls {T = X} z.txs.node (Err f) (commit_calls z t) old new) is left)

  pub halted_err : (f : StepFault) → halted_by {X = X} (Err f) ≡ halted_by {X = Y} (Err f)
  halted_err step.NoMemory = refl
  halted_err (step.Halted k kept) = refl
  halted_err (step.Differs p e f) = refl

-- a home that couldn't commit
pub force_commit : (t : TxId) (f : StepFault) → IsForceFault t f → IsCommitFault t f
force_commit t step.NoMemory is = is
force_commit t (step.Halted call.Read kept) is = absurd is
force_commit t (step.Halted call.Log kept) is = is
force_commit t (step.Halted call.Write kept) is = is
force_commit t (step.Halted call.Force kept) is = is
force_commit t (step.Halted call.Trim kept) is = is
force_commit t (step.Halted call.Cut kept) is = is
force_commit t (step.Differs p e f) is = absurd is

pub force_unread : (Y : Type 0) (t : TxId) (f : StepFault) → IsForceFault t f → halted_by {X = Y} (Err f) ≢ Some call.Read
force_unread Y t step.NoMemory is = λ e. absurd (cc)
force_unread Y t (step.Halted call.Read kept) is = absurd is
force_unread Y t (step.Halted call.Log kept) is = λ e. absurd (cc)
force_unread Y t (step.Halted call.Write kept) is = λ e. absurd (cc)
force_unread Y t (step.Halted call.Force kept) is = λ e. absurd (cc)
force_unread Y t (step.Halted call.Trim kept) is = λ e. absurd (cc)
force_unread Y t (step.Halted call.Cut kept) is = λ e. absurd (cc)
force_unread Y t (step.Differs p e f) is = λ e. absurd (cc)

-- a home that is done, after which a page couldn't be read
read_commit : (t : TxId) (f : StepFault) → IsReadHalt f → IsCommitFault t f
read_commit t step.NoMemory is = absurd is
read_commit t (step.Halted k kept) is = subst (λ (z : Call). IsCommitFault t (step.Halted z kept)) (sym is.0) is.1
read_commit t (step.Differs p e f) is = is

pub told_fault : {X : Type 0} (t : TxId) (r : Result X StepFault) → IfErr r IsReadHalt → IfErr r (IsCommitFault t)
told_fault t (Ok x) is = tt
told_fault t (Err f) is = read_commit t f is

read_record : (h : HomeState) (t : TxId) (unasked : Type 0) (old new : Logs) (f : StepFault) → IsReadHalt f → LeavesRecord h t unasked old new f
read_record h t unasked old new step.NoMemory is = tt
read_record h t unasked old new (step.Halted k kept) is = subst (λ (z : Call). LeavesRecord h t unasked old new (step.Halted z kept)) (sym is.0) tt
read_record h t unasked old new (step.Differs p e f) is = tt

pub told_record : {X : Type 0} (h : HomeState) (t : TxId) (unasked : Type 0) (old new : Logs) (r : Result X StepFault) → IfErr r IsReadHalt → IfErr r (LeavesRecord h t unasked old new)
told_record h t unasked old new (Ok x) is = tt
told_record h t unasked old new (Err f) is = read_record h t unasked old new f is

pub told_names : {X : Type 0} (n : ℕ) (d : Disk) (calls : List DiskCall) (stops : List (Option Stop)) (r : Result X StepFault) → halted_by r ≡ None → IfErr r (NamesKept n d calls stops)
told_names n d calls stops (Ok x) none = tt
told_names n d calls stops (Err step.NoMemory) none = tt
told_names n d calls stops (Err (step.Halted k kept)) none = absurd (cc)
told_names n d calls stops (Err (step.Differs p e f)) none = tt

pub told_quiet : {X : Type 0} (r : Result X StepFault) (k : Call) → halted_by r ≡ None → halted_by r ≢ Some k
told_quiet r k none some = let bad : None ≡ Some k = sym none ∙ some in absurd (cc)
