-- The cut of a log within a step: its calls, and what they leave.
use Rattle.std.specs.Prelude.{◌≡◌, ◌≢◌, ⊤, ℕ, ◌==◌, List, [], ◌∷◌, Some, None, Result, Ok, Err}
use Rattle.pcl_base.specs.declared.trace.Call.TheVariants as call
use Rattle.run_rules.specs.Disk.{Disk, log_at}
use Rattle.node_rules.specs.Words.{pick}
use Rattle.node_rules.specs.CutRule.{cuttable}
use Rattle.node_rules.specs.DiskCalls.{DiskCall, CutLog}
use Rattle.node_rules.specs.NodeState.{NodeState, number_of}
use Rattle.node_rules.specs.Work.{Outcome, Goes, Differs as differs}
use Rattle.home.specs.Device.{Told, Made}
use Rattle.page_store.specs.declared.fault.RedoFault.{RedoFault}
use Rattle.page_store.specs.declared.fault.RedoFault.TheVariants as redo
use Rattle.node_parts.specs.declared.fault.StepFault.{StepFault}
use Rattle.node_parts.specs.declared.fault.StepFault.TheVariants.{NoMemory, Halted, Differs}

-- the calls of a cut of so many bytes: none where there are none
abbrev pub cut_calls : ℕ → List DiskCall
cut_calls n = pick (n == 0) [] (CutLog n ∷ [])

-- a length, or none where a page differs
abbrev pub counted : Outcome ℕ → ℕ
counted (Goes n) = n
counted (differs p expected found) = 0

-- how many bytes may be cut from the front of a node's log
abbrev pub front_of : Disk → NodeState → ℕ
front_of d n = counted (cuttable n.home.config d.pages (log_at d (number_of n)))

-- what became of a cut of so many bytes of the log of node me: it was made, or it failed, or it wasn't
-- called
abbrev pub LeavesFront : {T : Type 0} → ℕ → ℕ → Result T StepFault → Told → Told → Type 0
LeavesFront me n (Ok x) old new = Made me (cut_calls n) old None new
LeavesFront me n (Err (Halted call.Cut kept)) old new = Made me (cut_calls n) old (Some call.Cut) new
LeavesFront me n (Err fault) old new = new ≡ old

-- a page or the log couldn't be read, or the log couldn't be cut, or a page differs, or memory is wanting
abbrev pub IsFrontFault : StepFault → Type 0
IsFrontFault NoMemory = ⊤
IsFrontFault (Halted call.Read kept) = kept ≡ None
IsFrontFault (Halted call.Log kept) = kept ≡ None
IsFrontFault (Halted call.Cut kept) = kept ≡ None
IsFrontFault (Halted k kept) = ⊥
IsFrontFault (Differs p expected found) = expected ≢ found

-- the fault of a step whose search of what may be cut ended early
abbrev pub fault_of : RedoFault → StepFault
fault_of (redo.Failed k) = Halted k None
fault_of (redo.BadPage p expected found) = Differs p expected found
fault_of redo.NoMemory = NoMemory
