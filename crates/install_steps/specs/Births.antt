-- What a node that is born in a view does first: it trims the torn rest of its log.
use Rattle.std.specs.Prelude.{◌≡◌, ℕ, ◌==◌, nat_lt, Bool, true, false, List, [], ◌∷◌, length, take, Option, Some, None, IfSome, Result, Ok, Err}
use Rattle.pcl_base.specs.Limits.{Sizes}
use Rattle.pcl_base.specs.declared.trace.Call.TheVariants as call
use Rattle.text_rules.specs.LogRecord.{whole_len}
use Rattle.run_rules.specs.Disk.{Disk, log_at}
use Rattle.run_rules.specs.Views.{View, born_of}
use Rattle.node_rules.specs.Words.{pick}
use Rattle.node_rules.specs.DiskCalls.{DiskCall, TrimLog, with_log}
use Rattle.node_rules.specs.NodeState.{NodeState, number_of}
use Rattle.node_rules.specs.InstallRule.{born_at, in_view}
use Rattle.disk_model.specs.Disk.{Logs, with_trimmed}
use Rattle.home.specs.Device.{Told, Made}
use Rattle.node_parts.specs.declared.fault.StepFault.{StepFault}
use Rattle.node_parts.specs.declared.fault.StepFault.TheVariants.{Halted}

-- how many bytes of a log stay once its torn rest is trimmed, where there is one
abbrev pub kept_of : Sizes → List ℕ → Option ℕ
kept_of c log = pick (nat_lt (whole_len c log) (length log)) (Some (whole_len c log)) None

-- whether a node is born in a view
abbrev pub is_born_in : View → NodeState → Bool
is_born_in v n = born_of v (number_of n) == v.epoch

-- how many bytes of its log a node keeps, where it is born and there is a torn rest
abbrev pub kept_if : Bool → Disk → NodeState → Option ℕ
kept_if true d n = kept_of n.home.config (log_at d (number_of n))
kept_if false d n = None

-- the call of a trim, where there is one
abbrev pub trim_calls : Option ℕ → List DiskCall
trim_calls None = []
trim_calls (Some keep) = TrimLog keep ∷ []

-- the node in a view, which begins its life where it is born in it
abbrev pub entered : Bool → View → NodeState → NodeState
entered true v n = born_at v.epoch (in_view v n)
entered false v n = in_view v n

-- a disk, and logs that may be told, after such a trim of the log of a node
abbrev pub trimmed : ℕ → Option ℕ → Disk → Disk
trimmed me None d = d
trimmed me (Some keep) d = with_log d me (take keep (log_at d me))

abbrev pub trimmed_logs : ℕ → Option ℕ → Logs → Logs
trimmed_logs me None logs = logs
trimmed_logs me (Some keep) logs = with_trimmed logs me keep

-- what stays are the whole records of the node's log, where the logs are told
abbrev pub KeepsRecords : Sizes → ℕ → Option ℕ → Logs → Type 0
KeepsRecords c me keep logs = (d : Disk) → logs ≡ Some d.logs → IfSome keep (λ k. k ≡ whole_len c (log_at d me))

-- what became of a trim by its answer
abbrev pub LeavesTrim : {T : Type 0} → ℕ → Option ℕ → Result T StepFault → Told → Told → Type 0
LeavesTrim me keep (Ok x) old new = Made me (trim_calls keep) old None new
LeavesTrim me keep (Err (Halted call.Trim kept)) old new = (kept ≡ None) × Made me (trim_calls keep) old (Some call.Trim) new
LeavesTrim me keep (Err fault) old new = ⊥
