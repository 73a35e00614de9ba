-- What carrying a planned partition out needs, and what it leaves.
use Rattle.std.specs.Prelude.{◌≡◌, ◌≢◌, ⊤, ℕ, ◌+◌, ◌<◌, ◌≤◌, Bool, List, [], ◌∷◌, ◌++◌, map, Option, Some, None, IfSome, Result, Ok, Err}
use Rattle.std.specs.List.{AllByRecursion, fold}
use Rattle.pcl_base.specs.Limits.{Sizes}
use Rattle.pcl_base.specs.declared.message.Report.{Report}
use Rattle.pcl_base.specs.declared.trace.Call.{Call}
use Rattle.pcl_base.specs.declared.trace.Call.TheVariants as call
use Rattle.text_rules.specs.StoredPage.{stored_bytes}
use Rattle.run_rules.specs.Disk.{Disk}
use Rattle.node_rules.specs.BufferRule.{clean}
use Rattle.node_rules.specs.DiskCalls.{DiskCall, WritePage}
use Rattle.node_rules.specs.LockTable.{LockTable}
use Rattle.node_rules.specs.NodeState.{HomeState}
use Rattle.node_rules.specs.Work.{Work, Outcome, and_so, for_each, with_pool}
use Rattle.disk_model.specs.Disk.{Pages, Logs}
use Rattle.home.specs.Device.{Told, Made}
use Rattle.install_laws.specs.InstallPlans.{PageWrite, Due, carry_due, put_planned, reply_if, tell}
use Rattle.lock_table.specs.Tables.{TableView}
use Rattle.partition_redo.specs.Chains.{PlannedView, IsRedoCall}
use Rattle.node_parts.specs.State.{PartsView}
use Rattle.node_parts.specs.Tables.{AreTidyBut}
use Rattle.node_parts.specs.declared.fault.StepFault.{StepFault}
use Rattle.node_parts.specs.declared.fault.StepFault.TheVariants.{NoMemory, Halted, Differs}
use Rattle.install_plans.specs.declared.plan.PartitionPlan.{PartitionPlan}
use Rattle.install_plans.specs.declared.plan.TableAfter.{TableAfter}
use Rattle.install_plans.specs.declared.plan.TableAfter.TheVariants.{AsBefore, Is, Gone}
use Rattle.install_plans.specs.Plans.{Fits, CanRedo, writes_by}

-- a planned page write as a changing call, and those of a redo and of a plan
abbrev pub write_call : PageWrite → DiskCall
write_call x = WritePage x.page (stored_bytes x.page x.at)

abbrev pub redo_calls : Disk → Option PlannedView → List DiskCall
redo_calls d r = map write_call (writes_by d r)

abbrev pub plan_calls : Disk → PartitionPlan → List DiskCall
plan_calls d p = redo_calls d p.redo

-- the pages of writes rise, from `low` on
abbrev pub AreRising : ℕ → List PageWrite → Type 0
AreRising low [] = ⊤
AreRising low (x ∷ xs) = (low ≤ x.page) × AreRising (x.page + 1) xs

-- a redo can be carried out, and what it writes rises by page
pub record CanWrite (c : Sizes) (me : ℕ) (pages : Pages) (logs : Logs) (r : PlannedView) : Type 0 where
  pub redo : CanRedo c me pages logs r
  pub rising : (d : Disk) → pages ≡ Some d.pages → logs ≡ Some d.logs → AreRising 0 (writes_by d (Some r))

-- the plan of partition q can be carried out by node `me` while pages and logs are these
pub record CanCarry (c : Sizes) (me q : ℕ) (pages : Pages) (logs : Logs) (p : PartitionPlan) : Type 0 where
  pub fits : Fits c me q pages logs p
  pub redo : IfSome p.redo (CanWrite c me pages logs)

-- the same of some plans, each with its partition
abbrev pub CanCarryEach : Sizes → ℕ → Pages → Logs → List (ℕ × PartitionPlan) → Type 0
CanCarryEach c me pages logs xs = AllByRecursion (λ x. CanCarry c me x.0 pages logs x.1) xs

-- the parts of a node whose partitions are turned over one after the other: what holds of every node, but
-- that its tables needn't be those of its view
pub record AreTurning (v : PartsView) : Type 0 where
  pub number : v.me ≡ v.home.txs.node
  pub below : v.me < v.home.config.nodes
  pub config : v.tables.config ≡ v.home.config
  pub tidy : AreTidyBut [] v.tables

-- what stands in the place of the partition then
abbrev pub place_after : TableAfter → Option TableView → Option TableView
place_after AsBefore t = t
place_after (Is u) t = Some u
place_after Gone t = None

-- the home where the copies of some pages are clean
abbrev pub cleaned : HomeState → List ℕ → HomeState
cleaned h ps = fold (λ (g : HomeState) p. with_pool g (clean g.pool p)) h ps

-- what follows the writes of a plan: the table is put, and then replies, decisions and the report
abbrev pub finished : ℕ → Option LockTable → Bool → List Due → Option (ℕ × Report) → Work → Outcome Work
finished q table begins decisions told w =
    and_so (for_each carry_due decisions (reply_if begins q (put_planned q table w))) (tell told)

-- a beginning of some calls of node n is made
pub record MadeSome (n : ℕ) (calls : List DiskCall) (old new : Told) : Type 0 where
  pub first : List DiskCall
  pub rest : List DiskCall
  pub all : first ++ rest ≡ calls
  pub made : Made n first old None new

-- the changing calls of node n after a call of this kind failed: a beginning of them is made where that only
-- reads, else one of them failed
abbrev pub BrokenOff : ℕ → Call → List DiskCall → Told → Told → Type 0
BrokenOff n call.Read calls old new = MadeSome n calls old new
BrokenOff n call.Log calls old new = MadeSome n calls old new
BrokenOff n k calls old new = Made n calls old (Some k) new

-- what became of the changing calls of node n by the answer of a part of a step
abbrev pub LeavesWrites : {T : Type 0} → ℕ → Result T StepFault → List DiskCall → Told → Told → Type 0
LeavesWrites n (Ok x) calls old new = Made n calls old None new
LeavesWrites n (Err NoMemory) calls old new = new ≡ old
LeavesWrites n (Err (Differs p expected found)) calls old new = Made n calls old None new
LeavesWrites n (Err (Halted k kept)) calls old new = BrokenOff n k calls old new

-- a call of the redo failed
abbrev pub IsRedoFault : StepFault → Type 0
IsRedoFault NoMemory = ⊥
IsRedoFault (Halted k kept) = IsRedoCall k × (kept ≡ None)
IsRedoFault (Differs p expected found) = ⊥

-- a call of the redo or the read of a granted page failed, or that page has another number or version than
-- it must
abbrev pub IsCarryFault : StepFault → Type 0
IsCarryFault NoMemory = ⊥
IsCarryFault (Halted k kept) = IsRedoCall k × (kept ≡ None)
IsCarryFault (Differs p expected found) = found ≢ expected
