-- What carrying decisions out needs, uses and answers.
use Rattle.std.specs.Prelude.{◌≡◌, ◌≢◌, ⊤, ℕ, ◌≤◌, ◌+◌, List, Option, Some, None, Result, Err}
use Rattle.pcl_base.specs.declared.trace.Call.{Call}
use Rattle.pcl_base.specs.declared.trace.Call.TheVariants.{Read}
use Rattle.node_rules.specs.DiskCalls.{DiskCall}
use Rattle.node_rules.specs.NodeState.{HomeState, NodeState}
use Rattle.node_rules.specs.Work.{Work}
use Rattle.home.specs.declared.fault.HomeFault.{HomeFault}
use Rattle.home.specs.declared.fault.HomeFault.TheVariants as home
use Rattle.node_parts.specs.declared.fault.StepFault.{StepFault}
use Rattle.node_parts.specs.declared.fault.StepFault.TheVariants as step
use Rattle.node_parts.specs.Comes.{work_of}
use Rattle.node_parts.specs.Outputs.{OutputsView}
use Rattle.node_parts.specs.Stock.{StockView}

-- a step in the making at a node with this home
abbrev pub work_with : NodeState → HomeState → List (List ℕ) → List DiskCall → OutputsView → Work
work_with n h pages calls out = work_of (record n { home = h }) pages calls out

-- there is memory for so many decisions: an image, a reply and a message for each
pub record HasMemory (count : ℕ) (stock : StockView) (out : OutputsView) : Type 0 where
  pub images : count ≤ stock.count
  pub replies : count ≤ out.reply_room
  pub sends : count ≤ out.send_room

-- a decision used at most one image, one reply and one message
pub record UsesOne (stock later : StockView) (out after : OutputsView) : Type 0 where
  pub size : later.size ≡ stock.size
  pub images : stock.count ≤ later.count + 1
  pub replies : out.reply_room ≤ after.reply_room + 1
  pub sends : out.send_room ≤ after.send_room + 1

-- so many decisions used at most that many images, replies and messages
pub record UsesMany (count : ℕ) (stock later : StockView) (out after : OutputsView) : Type 0 where
  pub size : later.size ≡ stock.size
  pub images : stock.count ≤ later.count + count
  pub replies : out.reply_room ≤ after.reply_room + count
  pub sends : out.send_room ≤ after.send_room + count

-- a later home is of the same node and birth, and of the same configuration
pub record SameNode (old new : HomeState) : Type 0 where
  pub config : new.config ≡ old.config
  pub node : new.txs.node ≡ old.txs.node
  pub born : new.txs.born ≡ old.txs.born

-- the fault of a step whose home couldn't read a page, or found that it differs
abbrev pub fault_of : HomeFault → StepFault
fault_of (home.Failed call kept) = step.Halted call None
fault_of (home.Differs p expected found) = step.Differs p expected found
fault_of _ = step.NoMemory

-- a page couldn't be read, or has another number or version than it must
abbrev pub IsReadHalt : StepFault → Type 0
IsReadHalt (step.Halted call kept) = (call ≡ Read) × (kept ≡ None)
IsReadHalt (step.Differs p expected found) = found ≢ expected
IsReadHalt step.NoMemory = ⊥

-- a page couldn't be read, or differs, or memory is wanting
abbrev pub IsTakeFault : StepFault → Type 0
IsTakeFault step.NoMemory = ⊤
IsTakeFault e = IsReadHalt e

-- the replies and the sends are the same
pub record HasSame (old new : OutputsView) : Type 0 where
  pub replies : new.replies ≡ old.replies
  pub sends : new.sends ≡ old.sends

-- the call whose failure ended a step
abbrev pub halted_by : {X : Type 0} → Result X StepFault → Option Call
halted_by (Err (step.Halted call kept)) = Some call
halted_by _ = None
