-- What a step comes to where its storage tells its pages and its logs, whatever calls fail.
use Rattle.std.specs.Prelude.{◌≡◌, ◌⊎◌, ⊤, ℕ, List, ◌++◌, take, Option, Some, None, Result, Ok, Err}
use Rattle.std.specs.List.{fold}
use Rattle.pcl_base.specs.declared.trace.Call.{Call}
use Rattle.pcl_base.specs.declared.trace.Call.TheVariants as call
use Rattle.pcl_base.specs.declared.tx.TxId.{TxId}
use Rattle.run_rules.specs.Disk.{Disk}
use Rattle.node_rules.specs.DiskCalls.{DiskCall, Left, Stop, forced, left_by}
use Rattle.node_rules.specs.NodeStep.{Plan}
use Rattle.node_rules.specs.Work.{Outcome, Goes, Differs as differs}
use Rattle.home.specs.CallLaws.{told_on}
use Rattle.home.specs.Device.{Told, Made}
use Rattle.node_parts.specs.declared.fault.StepFault.{StepFault}
use Rattle.node_parts.specs.declared.fault.StepFault.TheVariants.{NoMemory, Halted, Differs}
use Rattle.step_ends.specs.Ran.{Stand}

-- a plan was carried out: the node, its replies and its sends are those of the plan, and its calls are made
pub record IsDone (me : ℕ) (p : Plan) (before after : Stand) : Type 0 where
  pub node : after.node ≡ p.node
  pub replies : after.replies ≡ before.replies ++ p.replies
  pub sends : after.sends ≡ before.sends ++ p.sends
  pub made : Made me p.calls before.told None after.told

-- a reading call failed behind a beginning of some changing calls, which is made; the halt names the
-- transaction whose record is among that
pub record BreaksOff (me : ℕ) (calls : List DiskCall) (kept : Option TxId) (old new : Told) : Type 0 where
  pub count : ℕ
  pub made : Made me (take count calls) old None new
  pub names : kept ≡ fold forced None (take count calls)

-- one of some changing calls failed, which leaves what some stop would leave; the halt names no transaction
-- but the one whose whole record was appended
pub record FailsAt (me : ℕ) (d : Disk) (calls : List DiskCall) (k : Call) (kept : Option TxId) (old new : Told) : Type 0 where
  pub made : Made me calls old (Some k) new
  pub stop : Stop
  pub left : Left
  pub leaves : left_by me d calls stop ≡ Some left
  pub same_call : left.call ≡ k
  pub disk : new ≡ told_on left.disk new.stops
  pub names : (kept ≡ left.kept) ⊎ (kept ≡ None)

-- a halt at a call of some kind
abbrev pub Breaks : ℕ → Disk → List DiskCall → Call → Option TxId → Told → Told → Type 0
Breaks me d calls call.Read kept old new = BreaksOff me calls kept old new
Breaks me d calls call.Log kept old new = BreaksOff me calls kept old new
Breaks me d calls k kept old new = FailsAt me d calls k kept old new

-- a step comes to its plan over a disk: it is carried out, or a call ended it, or memory is wanting; where a
-- page that the plan reads differs, the fault names the same numbers, and some calls may have been made
abbrev pub Came : {T : Type 0} → ℕ → Disk → Outcome Plan → Result T StepFault → Stand → Stand → Type 0
Came me d (Goes p) (Ok x) before after = IsDone me p before after
Came me d (Goes p) (Err (Halted k kept)) before after = Breaks me d p.calls k kept before.told after.told
Came me d (Goes p) (Err (Differs page expected found)) before after = ⊥
Came me d (Goes p) (Err NoMemory) before after = ⊤
Came me d (differs p e f) (Ok x) before after = ⊥
Came me d (differs p e f) (Err (Halted k kept)) before after = (calls : List DiskCall) × Breaks me d calls k kept before.told after.told
Came me d (differs p e f) (Err (Differs page expected found)) before after =
    ((p ≡ page) × (e ≡ expected) × (f ≡ found)) × ((calls : List DiskCall) × Made me calls before.told None after.told)
Came me d (differs p e f) (Err NoMemory) before after = ⊤
