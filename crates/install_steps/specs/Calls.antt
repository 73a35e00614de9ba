-- The changing calls of an install and of a report that arrives, and what became of them.
use Rattle.std.specs.Prelude.{◌≡◌, ◌≢◌, ⊤, ℕ, ◌+◌, ◌<◌, ◌≤◌, List, [], ◌∷◌, ◌++◌, map, slice_set, Option, Some, None, Result, Ok, Err}
use Rattle.pcl_base.specs.declared.message.Report.{Report}
use Rattle.pcl_base.specs.declared.trace.Call.{Call}
use Rattle.pcl_base.specs.declared.trace.Call.TheVariants as call
use Rattle.run_rules.specs.Disk.{Disk}
use Rattle.run_rules.specs.Views.{View}
use Rattle.node_rules.specs.DiskCalls.{DiskCall}
use Rattle.node_rules.specs.NodeState.{NodeState}
use Rattle.node_rules.specs.InstallRule.{in_view}
use Rattle.node_rules.specs.Work.{Outcome, Goes, Differs as differs}
use Rattle.home.specs.Device.{Told, Made}
use Rattle.install_laws.specs.InstallPlans.{Differing, PartitionPlan as Planned, plan_install, plan_report}
use Rattle.lock_table.specs.Tables.{TableView}
use Rattle.partition_redo.specs.Chains.{IsRedoCall}
use Rattle.node_parts.specs.Tables.{place_at}
use Rattle.node_parts.specs.declared.fault.StepFault.{StepFault}
use Rattle.node_parts.specs.declared.fault.StepFault.TheVariants.{NoMemory, Halted, Differs}
use Rattle.install_plans.specs.declared.plan.PartitionPlan.{PartitionPlan}
use Rattle.partition_steps.specs.Carried.{BrokenOff, MadeSome, place_after, plan_calls, write_call}
use Rattle.install_steps.specs.Births.{is_born_in, kept_if, trim_calls}

-- the calls of a plan of the rules, and of some, each with its partition
abbrev pub rule_calls : Planned → List DiskCall
rule_calls p = map write_call p.writes

abbrev pub rules_calls : List (ℕ × Planned) → List DiskCall
rules_calls [] = []
rules_calls (x ∷ xs) = rule_calls x.1 ++ rules_calls xs

-- the calls of an install: the trim of the torn rest, and the writes of redo, partition by partition
abbrev pub install_calls : Disk → View → NodeState → List DiskCall
install_calls d v n =
    trim_calls (kept_if (is_born_in v n) d n) ++ rules_calls (plan_install d d.pages n.view v (in_view v n)).plans

-- the calls of a plan that can be made, or none
abbrev pub calls_in : Outcome Planned → List DiskCall
calls_in (Goes p) = rule_calls p
calls_in (differs p expected found) = []

-- the calls of a report that is taken
abbrev pub report_calls : Disk → ℕ → Report → NodeState → List DiskCall
report_calls d from r n = calls_in (plan_report d d.pages from r n)

-- the calls of plans that were made, each with its partition
abbrev pub all_calls : Disk → List (ℕ × PartitionPlan) → List DiskCall
all_calls d [] = []
all_calls d (x ∷ xs) = plan_calls d x.1 ++ all_calls d xs

-- what stands in the places of partitions after these plans
abbrev pub places_after : List (ℕ × PartitionPlan) → List (Option TableView) → List (Option TableView)
places_after [] places = places
places_after (x ∷ xs) places =
    places_after xs (slice_set places x.0 (place_after x.1.table (place_at places x.0)))

-- the partitions of plans rise from this one on, and are below
abbrev pub AreFrom : ℕ → ℕ → List (ℕ × PartitionPlan) → Type 0
AreFrom nodes low [] = ⊤
AreFrom nodes low (x ∷ xs) = (low ≤ x.0) × (x.0 < nodes) × AreFrom nodes (x.0 + 1) xs

-- what became of the changing calls of node n by the answer: all of them are made; or none, where memory is
-- wanting; or a beginning of them, where a page or a log couldn't be read, or a page differs; or one failed
abbrev pub LeavesCalls : {T : Type 0} → ℕ → Result T StepFault → List DiskCall → Told → Told → Type 0
LeavesCalls n (Ok x) calls old new = Made n calls old None new
LeavesCalls n (Err NoMemory) calls old new = new ≡ old
LeavesCalls n (Err (Differs p expected found)) calls old new = MadeSome n calls old new
LeavesCalls n (Err (Halted k kept)) calls old new = BrokenOff n k calls old new

-- why an install ends early once it has begun: a page or a log couldn't be read, a page couldn't be written
-- or the log not trimmed, or a page has another number or version than it must
abbrev pub IsWorkFault : StepFault → Type 0
IsWorkFault NoMemory = ⊥
IsWorkFault (Halted call.Force kept) = ⊥
IsWorkFault (Halted call.Cut kept) = ⊥
IsWorkFault (Halted k kept) = kept ≡ None
IsWorkFault (Differs p expected found) = expected ≢ found

-- the same, or memory is wanting
abbrev pub IsInstallFault : StepFault → Type 0
IsInstallFault NoMemory = ⊤
IsInstallFault e = IsWorkFault e

-- why a report that is taken ends early: memory is wanting, or a page or a log couldn't be read, or a page
-- couldn't be written, or a page has another number or version than it must
abbrev pub IsReportFault : StepFault → Type 0
IsReportFault NoMemory = ⊤
IsReportFault (Halted k kept) = IsRedoCall k × (kept ≡ None)
IsReportFault (Differs p expected found) = expected ≢ found

-- the call at which a fault has halted
abbrev pub halts_at : StepFault → Option Call
halts_at (Halted k kept) = Some k
halts_at _ = None

-- a fact that is known unless memory is wanting
abbrev pub UnlessWanting : {T : Type 0} → Result T StepFault → Type 0 → Type 0
UnlessWanting (Err NoMemory) X = ⊤
UnlessWanting _ X = X

-- an install that ends at a page that differs
abbrev pub end_of : Option Differing → Result (Unit {0}) StepFault
end_of None = Ok tt
end_of (Some x) = Err (Differs x.page x.expected x.found)
