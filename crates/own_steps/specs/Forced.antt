-- The record of a commit: what becomes of it, and what a halt says of it.
use Rattle.std.specs.Prelude.{◌≡◌, ◌≢◌, ◌⊎◌, ⊤, ℕ, Bool, List, Option, Some, None, is_some, slice_index_or}
use Rattle.pcl_base.specs.declared.trace.Call.TheVariants as call
use Rattle.pcl_base.specs.declared.tx.TxId.{TxId}
use Rattle.disk_model.specs.declared.stop.Stop.{Stop}
use Rattle.disk_model.specs.Disk.{Logs}
use Rattle.run_rules.specs.Disk.{Disk}
use Rattle.node_rules.specs.Words.{pick}
use Rattle.node_rules.specs.DiskCalls.{DiskCall, Left, left_by}
use Rattle.node_rules.specs.NodeState.{HomeState}
use Rattle.home.specs.CallLaws.{rule_stop}
use Rattle.home.specs.Commits.{IsTorn, commit_bytes}
use Rattle.home.specs.declared.fault.HomeFault.{HomeFault}
use Rattle.home.specs.declared.fault.HomeFault.TheVariants as home
use Rattle.node_parts.specs.declared.fault.StepFault.{StepFault}
use Rattle.node_parts.specs.declared.fault.StepFault.TheVariants.{NoMemory, Halted, Differs}

-- a transaction, where its whole record is known to stand in the log
abbrev pub named_if : Bool → TxId → Option TxId
named_if kept t = pick kept (Some t) None

-- the fault of a step whose home couldn't commit a transaction
abbrev pub commit_fault : TxId → HomeFault → StepFault
commit_fault t (home.Failed k kept) = Halted k (named_if kept t)
commit_fault t (home.Differs p expected found) = Differs p expected found
commit_fault t _ = NoMemory

-- the record of a transaction couldn't be forced, or the length of the log couldn't be asked before that,
-- or memory is wanting
abbrev pub IsForceFault : TxId → StepFault → Type 0
IsForceFault t NoMemory = ⊤
IsForceFault t (Halted call.Force kept) = (kept ≡ None) ⊎ (kept ≡ Some t)
IsForceFault t (Halted call.Log kept) = kept ≡ None
IsForceFault t (Halted k kept) = ⊥
IsForceFault t (Differs p expected found) = ⊥

-- the same, or a page couldn't be read, or has another number or version than it must
abbrev pub IsCommitFault : TxId → StepFault → Type 0
IsCommitFault t (Halted call.Read kept) = kept ≡ None
IsCommitFault t (Differs p expected found) = found ≢ expected
IsCommitFault t e = IsForceFault t e

-- what a halt at the force of a commit says of the logs: a prefix of the record was appended, and where
-- they are told that is all of it exactly where the halt names a transaction, or the length of the log
-- couldn't be asked
abbrev pub LeavesRecord : HomeState → TxId → Type 0 → Logs → Logs → StepFault → Type 0
LeavesRecord h t unasked old new (Halted call.Force kept) =
    IsTorn (is_some kept) h.txs.node (commit_bytes h t) unasked old new
LeavesRecord h t unasked old new _ = ⊤

-- a halt names the transaction whose whole record the armed stop of node n leaves, where that comes due in
-- these calls
abbrev pub NamesKept : ℕ → Disk → List DiskCall → List (Option Stop) → StepFault → Type 0
NamesKept n d calls stops (Halted k kept) =
    (s : Stop) (l : Left) → slice_index_or stops n None ≡ Some s → left_by n d calls (rule_stop s) ≡ Some l
    → kept ≡ l.kept
NamesKept n d calls stops _ = ⊤
