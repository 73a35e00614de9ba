-- The changing calls of a release that is taken, and what they leave.
use Rattle.std.specs.Prelude.{◌≡◌, ⊤, ℕ, Bool, true, false, List, [], Option, Some, None, Result, Ok, Err}
use Rattle.pcl_base.specs.declared.lock.Verdict.{Verdict}
use Rattle.pcl_base.specs.declared.lock.Verdict.TheVariants as verdict
use Rattle.pcl_base.specs.declared.message.Body.{Body}
use Rattle.pcl_base.specs.declared.message.Body.TheVariants as body
use Rattle.pcl_base.specs.declared.message.Message.{Message}
use Rattle.pcl_base.specs.declared.message.Change.{Change}
use Rattle.pcl_base.specs.declared.message.Release.{Release}
use Rattle.pcl_base.specs.declared.trace.Call.TheVariants.{Write}
use Rattle.node_rules.specs.LockRule.{takes_change}
use Rattle.node_rules.specs.LockTable.{LockTable, entry_at}
use Rattle.node_rules.specs.NodeState.{HomeState, NodeState, number_of, table_of}
use Rattle.node_rules.specs.NodeStep.{judge_in, partition_of}
use Rattle.node_rules.specs.DiskCalls.{DiskCall}
use Rattle.node_rules.specs.OwnerRule.{put_change, change_if_served, version_of_change}
use Rattle.home.specs.Device.{work_on, Told, Made}
use Rattle.node_parts.specs.declared.fault.StepFault.{StepFault}
use Rattle.node_parts.specs.declared.fault.StepFault.TheVariants.{NoMemory, Halted, Differs}
use Rattle.page_owner.specs.Carry.{IsReadHalt}

-- the calls of a change that is taken, or none
abbrev pub put_calls : Bool → ℕ → Option Change → HomeState → List DiskCall
put_calls true p (Some c) h = (put_change p c (work_on h)).calls
put_calls _ p c h = []

-- the home with a change that is taken, or as it was
abbrev pub home_put : Bool → ℕ → Option Change → HomeState → HomeState
home_put true p (Some c) h = (put_change p c (work_on h)).home
home_put _ p c h = h

-- whether the change of a release is taken
abbrev pub is_taken : Release → Option LockTable → Bool
is_taken r None = false
is_taken r (Some t) = takes_change (entry_at t r.page) r.tx (version_of_change (change_if_served t.serving r.change))

-- the calls of a release
abbrev pub release_calls : Release → Option LockTable → HomeState → List DiskCall
release_calls r t h = put_calls (is_taken r t) r.page r.change h

-- what became of the changing calls of node n by an answer: all of them are made, those up to a write that
-- failed, or none where memory is wanting; where a page couldn't be read, or differs, all were made before
abbrev pub LeavesCalls : {T : Type 0} → ℕ → Result T StepFault → List DiskCall → Told → Told → Type 0
LeavesCalls n (Ok x) calls old new = Made n calls old None new
LeavesCalls n (Err NoMemory) calls old new = new ≡ old
LeavesCalls n (Err (Differs p expected found)) calls old new = Made n calls old None new
LeavesCalls n (Err (Halted Write kept)) calls old new = (kept ≡ None) × Made n calls old (Some Write) new
LeavesCalls n (Err (Halted call kept)) calls old new = Made n calls old None new

-- a page couldn't be written or read, or differs, or memory is wanting
abbrev pub IsReleaseFault : StepFault → Type 0
IsReleaseFault NoMemory = ⊤
IsReleaseFault (Halted Write kept) = kept ≡ None
IsReleaseFault e = IsReadHalt e

-- whether a message is a report
abbrev pub is_report : Body → Bool
is_report (body.Report r) = true
is_report _ = false

-- the changing calls of a message that is taken: only a release has any
abbrev pub body_calls : Body → NodeState → List DiskCall
body_calls (body.Release r) n = release_calls r (table_of n r.page) n.home
body_calls _ n = []

-- the same by its verdict
abbrev pub calls_by : Verdict → Body → NodeState → List DiskCall
calls_by verdict.Taken b n = body_calls b n
calls_by _ b n = []

-- the changing calls of a message that is delivered
abbrev pub message_calls : ℕ → Message → NodeState → List DiskCall
message_calls from m n =
    calls_by (judge_in n.view (number_of n) from m.epoch (partition_of n.home.config m.body)) m.body n
