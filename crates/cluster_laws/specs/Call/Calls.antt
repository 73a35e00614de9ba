-- The calls of a step that change a log, and those that write pages.
use Rattle.std.specs.Prelude.{◌≡◌, ℕ, ◌==◌, nat_lt, Bool, true, false, List, [], ◌∷◌, ◌++◌, length, take, drop, Option, Some, None, ⊤}
use Rattle.std.specs.List.{AllByRecursion}
use Rattle.pcl_base.specs.declared.reply.Reason.{Reason}
use Rattle.text_rules.specs.LogRecord.{record_bytes, whole_len}
use Rattle.run_rules.specs.Disk.{Disk, log_at}
use Rattle.run_rules.specs.Views.{born_of}
use Rattle.node_rules.specs.Words.{pick}
use Rattle.node_rules.specs.CutRule.{cuttable}
use Rattle.node_rules.specs.DiskCalls.{DiskCall, WritePage, Force, TrimLog, CutLog}
use Rattle.node_rules.specs.EndRule.{pages_written, commit_record}
use Rattle.node_rules.specs.NodeState.{NodeState, NodeEvent, Commit, Install, Cut, number_of}
use Rattle.node_rules.specs.Refusals.{refusal}
use Rattle.node_rules.specs.Work.{Outcome, Goes, Differs}

-- a call that writes a page
abbrev pub IsWrite : DiskCall → Type 0
IsWrite (WritePage p bytes) = ⊤
IsWrite _ = ⊥

-- a call, where a test fails
abbrev pub call_unless : Bool → DiskCall → List DiskCall
call_unless true call = []
call_unless false call = call ∷ []

-- the own log of a node
abbrev pub log_of_node : NodeState → Disk → List ℕ
log_of_node n d = log_at d (number_of n)

-- a node that is born trims the torn rest of its log, where there is one
abbrev pub trimmed : NodeState → Disk → List DiskCall
trimmed n d =
    pick (nat_lt (whole_len n.home.config (log_of_node n d)) (length (log_of_node n d)))
    (TrimLog (whole_len n.home.config (log_of_node n d)) ∷ []) []

-- so many bytes are cut, if any
abbrev pub cut_by : Outcome ℕ → List DiskCall
cut_by (Goes count) = call_unless (count == 0) (CutLog count)
cut_by (Differs p expected found) = []

-- the call that an event makes on the node's log: a commit with writes forces its record, the install of the
-- view of the node's birth trims a torn rest, and a cut cuts
abbrev pub on_log : NodeState → Disk → NodeEvent → List DiskCall
on_log n d (Commit t) =
    call_unless (length (pages_written n.home t) == 0) (Force t (record_bytes (commit_record n.home t)))
on_log n d (Install v) = pick (born_of v (number_of n) == v.epoch) (trimmed n d) []
on_log n d Cut = cut_by (cuttable n.home.config d.pages (log_of_node n d))
on_log n d _ = []

-- a refused event makes none
abbrev pub calls_unless_refused : Option Reason → List DiskCall → List DiskCall
calls_unless_refused None calls = calls
calls_unless_refused (Some r) calls = []

-- the call of a step on the node's log, if it makes one
unfoldable pub log_calls : NodeState → Disk → NodeEvent → List DiskCall
log_calls n d event = calls_unless_refused (refusal n event) (on_log n d event)

-- some calls, and then page writes alone
pub record BeginsWith (front calls : List DiskCall) : Type 0 where
  pub writes : List DiskCall
  pub all : AllByRecursion IsWrite writes
  pub joined : calls ≡ front ++ writes

-- a log after a call of its node
abbrev pub log_by : List ℕ → DiskCall → List ℕ
log_by log (WritePage p bytes) = log
log_by log (Force t bytes) = log ++ bytes
log_by log (TrimLog keep) = take keep log
log_by log (CutLog count) = drop count log
