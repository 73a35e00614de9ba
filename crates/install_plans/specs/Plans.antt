-- What the plan of a partition is in the laws of planned installs, and what carrying it out needs.
use Rattle.std.specs.Prelude.{◌≡◌, ◌≢◌, ⊤, ℕ, ◌+◌, ◌<◌, nat_lt, List, [], ◌∷◌, ◌++◌, map, Option, Some, None, IfSome, Result, Ok, Err}
use Rattle.std.specs.List.{AllByRecursion}
use Rattle.pcl_base.specs.Limits.{Sizes}
use Rattle.pcl_base.specs.declared.log.Record.{Record}
use Rattle.pcl_base.specs.declared.message.Report.{Report}
use Rattle.pcl_base.specs.declared.trace.Call.{Call}
use Rattle.text_rules.specs.MessageBytes.{IsPageOf}
use Rattle.text_rules.specs.StoredPage.{PageAt, BadNumber, stored_page}
use Rattle.run_rules.specs.Disk.{Disk, raw_page}
use Rattle.run_rules.specs.Redo.{redone, all_records}
use Rattle.node_rules.specs.Words.{pick}
use Rattle.node_rules.specs.LockTable.{LockTable, set_version}
use Rattle.node_rules.specs.Work.{Outcome, Goes, Differs as differs}
use Rattle.disk_model.specs.Disk.{Pages, Logs}
use Rattle.install_laws.specs.InstallPlans.{Turnover as Turned, Stays as stays, IsTaken as is_taken, IsLeft as is_left, PageWrite, PartitionPlan as Planned}
use Rattle.lock_table.specs.Tables.{table_of}
use Rattle.partition_redo.specs.Chains.{PlannedView, AreAll, AllStand, IsChain, IsNewer, IsRedone, IsReadCall, first_bad}
use Rattle.node_parts.specs.declared.fault.StepFault.{StepFault}
use Rattle.node_parts.specs.declared.fault.StepFault.TheVariants.{NoMemory, Halted, Differs}
use Rattle.node_parts.specs.State.{PartsView}
use Rattle.node_parts.specs.Tables.{IsTableAt}
use Rattle.install_plans.specs.declared.plan.Turnover.{Turnover}
use Rattle.install_plans.specs.declared.plan.Turnover.TheVariants.{Stays, Taken, Left}
use Rattle.install_plans.specs.declared.plan.TableAfter.{TableAfter}
use Rattle.install_plans.specs.declared.plan.TableAfter.TheVariants.{AsBefore, Is, Gone}
use Rattle.install_plans.specs.declared.plan.PartitionPlan.{PartitionPlan}
use Rattle.install_plans.specs.declared.planner.Planner.{Planner}
use Rattle.install_plans.specs.Tables.{IsTidy}

-- what becomes of what the home has of a partition
abbrev pub turnover_of : Turnover → Turned
turnover_of Stays = stays
turnover_of Taken = is_taken
turnover_of Left = is_left

-- the table with which a partition ends, from the one before
abbrev pub table_after : TableAfter → Option LockTable → Option LockTable
table_after AsBefore t = t
table_after (Is u) t = Some (table_of u)
table_after Gone t = None

-- the pages that a redo lists, and their versions
abbrev pub listed_by : Option PlannedView → List ℕ
listed_by None = []
listed_by (Some r) = map (λ x. x.page) r.chains

-- the versions of these pages
abbrev pub versions_by : Option PlannedView → List (ℕ × ℕ)
versions_by None = []
versions_by (Some r) = r.versions

-- a page of a table gets a version
abbrev pub set_one : LockTable → ℕ × ℕ → LockTable
set_one t x = set_version t x.0 x.1

-- what redo writes of a page, from what is stored
abbrev pub write_of : List Record → ℕ → Result PageAt BadNumber → List PageWrite
write_of rs p (Ok old) =
    pick (nat_lt old.version (redone rs p old).version) (record { page = p; at = redone rs p old } ∷ []) []
write_of rs p (Err bad) = []

-- what redo writes of some pages
unfoldable pub writes_of : List Record → List (List ℕ) → List ℕ → List PageWrite
writes_of rs pages [] = []
writes_of rs pages (p ∷ ps) = write_of rs p (stored_page p (raw_page pages p)) ++ writes_of rs pages ps

-- the pages that a redo writes
abbrev pub writes_by : Disk → Option PlannedView → List PageWrite
writes_by d None = []
writes_by d (Some r) = writes_of (all_records r.config d) d.pages (map (λ x. x.page) r.chains)

-- the plan of the rules, where the partition has this table
abbrev pub plan_of : Disk → Option LockTable → PartitionPlan → Planned
plan_of d t p =
    record {
      turnover = turnover_of p.turnover;
      writes = writes_by d p.redo;
      table = table_after p.table t;
      begins = p.begins;
      decisions = p.decisions.items;
      told = p.report;
    }

-- an answer is what the rules plan; where memory is wanted or a call failed, nothing is said
abbrev pub Plans : Outcome Planned → Disk → Option LockTable → Result PartitionPlan StepFault → Type 0
Plans o d t (Ok p) = o ≡ Goes (plan_of d t p)
Plans o d t (Err (Differs page expected found)) = o ≡ differs page expected found
Plans o d t (Err NoMemory) = ⊤
Plans o d t (Err (Halted call kept)) = ⊤

-- the redo of some pages is planned, or the first of them that differs is named
abbrev pub Redoes : Sizes → Disk → List ℕ → Result (Option PlannedView) StepFault → Type 0
Redoes c d ps (Ok r) = AreAll (IsRedone c d) ps (versions_by r) × (first_bad d ps ≡ None)
Redoes c d ps (Err (Differs page expected found)) = first_bad d ps ≡ Some (record { page = page; expected = expected; found = found })
Redoes c d ps (Err NoMemory) = ⊤
Redoes c d ps (Err (Halted call kept)) = ⊤

-- the redo can be carried out by a node while pages and logs are these
pub record CanRedo (c : Sizes) (me : ℕ) (pages : Pages) (logs : Logs) (r : PlannedView) : Type 0 where
  pub config : r.config ≡ c
  pub node : r.by ≡ me
  pub stand : (d : Disk) → logs ≡ Some d.logs → AllStand c d r.chains
  pub chains : (d : Disk) → pages ≡ Some d.pages → logs ≡ Some d.logs → AllByRecursion (IsChain c d) r.chains
  pub newer : (d : Disk) → pages ≡ Some d.pages → logs ≡ Some d.logs → AllByRecursion (IsNewer d) r.chains

-- a redo lists pages of a partition alone
abbrev pub RedoesOwn : Sizes → ℕ → PlannedView → Type 0
RedoesOwn c q r = AllByRecursion (λ x. IsPageOf c q x.page) r.chains

-- a new table is that of the partition, and its entries are in use
abbrev pub IsAfter : Sizes → ℕ → TableAfter → Type 0
IsAfter c q AsBefore = ⊤
IsAfter c q (Is t) = IsTableAt c q t × IsTidy t
IsAfter c q Gone = ⊤

-- the plan of a partition can be carried out by a node while pages and logs are these
pub record Fits (c : Sizes) (me q : ℕ) (pages : Pages) (logs : Logs) (p : PartitionPlan) : Type 0 where
  pub redo : IfSome p.redo (CanRedo c me pages logs)
  pub own : IfSome p.redo (RedoesOwn c q)
  pub table : IsAfter c q p.table

-- why something wasn't told: memory is wanted, or a call failed that only reads
abbrev pub IsCallFault : StepFault → Type 0
IsCallFault NoMemory = ⊤
IsCallFault (Halted call kept) = IsReadCall call × (kept ≡ None)
IsCallFault (Differs page expected found) = ⊥

-- why a plan wasn't made: memory is wanted, a call failed that only reads, or a page differs
abbrev pub IsPlanFault : StepFault → Type 0
IsPlanFault NoMemory = ⊤
IsPlanFault (Halted call kept) = IsReadCall call × (kept ≡ None)
IsPlanFault (Differs page expected found) = (expected ≡ page + 1) × (found ≢ page + 1)

-- the call whose failure ended a step
abbrev pub halted_by : {X : Type 0} → Result X StepFault → Option Call
halted_by (Err (Halted call kept)) = Some call
halted_by _ = None

-- who plans is the node of these parts
pub record IsPlannerOf (v : PartsView) (by : Planner) : Type 0 where
  pub config : by.config ≡ v.home.config
  pub me : by.me ≡ v.me

-- a report is of a partition, and names pages of that partition alone
pub record NamesOwn (c : Sizes) (r : Report) : Type 0 where
  pub partition : r.partition < c.nodes
  pub locks : AllByRecursion (λ x. IsPageOf c r.partition x.page) r.locks
  pub rights : AllByRecursion (λ x. IsPageOf c r.partition x.page) r.rights
  pub waits : AllByRecursion (λ x. IsPageOf c r.partition x.page) r.waits
