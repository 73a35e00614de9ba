-- The changing calls of what a node does for its own transactions, and what they leave.
use Rattle.std.specs.Prelude.{◌≡◌, ◌≢◌, ⊤, ℕ, ◌==◌, Bool, List, Some, None, Result, Ok, Err}
use Rattle.pcl_base.specs.declared.trace.Call.{Call}
use Rattle.pcl_base.specs.declared.trace.Call.TheVariants as call
use Rattle.node_rules.specs.DiskCalls.{DiskCall}
use Rattle.node_rules.specs.AccessRule.{Access, access, mode_of_write}
use Rattle.node_rules.specs.BufferRule.{find}
use Rattle.node_rules.specs.LockTable.{LockTable}
use Rattle.node_rules.specs.NodeState.{HomeState, NodeState, number_of, page_owner}
use Rattle.node_rules.specs.OwnerRule.{after_access}
use Rattle.node_rules.specs.Work.{Outcome, Work, work_of_home, write_back}
use Rattle.authority.specs.Plans.{Plan, plan_request}
use Rattle.home.specs.Answers.{evict_copy}
use Rattle.home.specs.Device.{Told, Made, work_on}
use Rattle.node_parts.specs.declared.fault.StepFault.{StepFault}
use Rattle.node_parts.specs.declared.fault.StepFault.TheVariants.{NoMemory, Halted, Differs}

-- the changing calls after a call of this kind failed: one of them failed, or all were made before a read,
-- or none after the length of the log was asked
abbrev pub Broken : ℕ → Call → List DiskCall → Told → Told → Type 0
Broken n call.Read calls old new = Made n calls old None new
Broken n call.Log calls old new = new ≡ old
Broken n k calls old new = Made n calls old (Some k) new

-- what became of the changing calls of node n by the answer of a step
abbrev pub LeavesCalls : {T : Type 0} → ℕ → Result T StepFault → List DiskCall → Told → Told → Type 0
LeavesCalls n (Ok x) calls old new = Made n calls old None new
LeavesCalls n (Err NoMemory) calls old new = new ≡ old
LeavesCalls n (Err (Differs p expected found)) calls old new = Made n calls old None new
LeavesCalls n (Err (Halted k kept)) calls old new = Broken n k calls old new

-- the calls of an eviction, and of a copy that is written and stays
abbrev pub evict_calls : ℕ → HomeState → List DiskCall
evict_calls p h = (evict_copy p (work_on h)).calls

abbrev pub flush_calls : ℕ → HomeState → List DiskCall
flush_calls p h = (write_back p (work_on h)).calls

-- a page couldn't be written, or memory is wanting
abbrev pub IsWriteFault : StepFault → Type 0
IsWriteFault NoMemory = ⊤
IsWriteFault (Halted call.Write kept) = kept ≡ None
IsWriteFault (Halted k kept) = ⊥
IsWriteFault (Differs p expected found) = ⊥

-- an access by a node that owns the page or doesn't, and its calls
abbrev pub access_by : Bool → Access → Work → Outcome Work
access_by owned a w = after_access a w (access a owned (work_of_home w))

abbrev pub access_calls : Bool → Access → HomeState → List DiskCall
access_calls owned a h = (access a owned (work_on h)).work.calls

abbrev pub own_calls : Access → NodeState → List DiskCall
own_calls a n = access_calls (page_owner n a.page == number_of n) a n.home

-- what is planned for an own page where an access of it will wait
abbrev pub planned_request : Access → ℕ → HomeState → LockTable → Plan
planned_request a me h t =
    plan_request t me a.page (record { tx = a.tx; mode = mode_of_write a.write; have = find h.pool a.page })

-- a page couldn't be written or read, or has another number or version than it must, or memory is wanting
abbrev pub IsAccessFault : StepFault → Type 0
IsAccessFault NoMemory = ⊤
IsAccessFault (Halted call.Write kept) = kept ≡ None
IsAccessFault (Halted call.Read kept) = kept ≡ None
IsAccessFault (Halted k kept) = ⊥
IsAccessFault (Differs p expected found) = found ≢ expected
