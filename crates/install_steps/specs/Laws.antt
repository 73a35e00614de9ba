-- The laws of the calls of an install, and of a report that is taken.
use Rattle.std.specs.Prelude.{◌≡◌, ⊤, ℕ, ◌<◌, true, List, [], ◌++◌}
use Rattle.pcl_base.specs.declared.message.Report.{Report}
use Rattle.run_rules.specs.Disk.{Disk}
use Rattle.run_rules.specs.Views.{View}
use Rattle.node_rules.specs.DiskCalls.{DiskCall}
use Rattle.node_rules.specs.InstallRule.{install_view, on_report}
use Rattle.node_rules.specs.NodeState.{NodeState}
use Rattle.node_rules.specs.Work.{Work, Outcome, Goes, Differs as differs}
use Rattle.install_laws.specs.Laws.{HasTables}
use Rattle.install_steps.specs.Births.{is_born_in}
use Rattle.install_steps.specs.Calls.{install_calls, report_calls}

-- a work, if there is one, has made these calls
abbrev pub HasMade : List DiskCall → Outcome Work → Type 0
HasMade calls (Goes w) = w.calls ≡ calls
HasMade calls (differs p expected found) = ⊤

-- an install makes its calls, where a node that is born in the view has no open transaction
abbrev pub InstallsMakeTheirCalls : Type 0
InstallsMakeTheirCalls =
    (d : Disk) (v : View) (n : NodeState) (w : Work) → HasTables n → (is_born_in v n ≡ true → n.home.txs.txs ≡ []) → w.node ≡ n → w.pages ≡ d.pages
    → HasMade (w.calls ++ install_calls d v n) (install_view d v w)

-- so does a report that is taken
abbrev pub ReportsMakeTheirCalls : Type 0
ReportsMakeTheirCalls =
    (d : Disk) (from : ℕ) (r : Report) (n : NodeState) (w : Work) → HasTables n → r.partition < n.home.config.nodes → w.node ≡ n → w.pages ≡ d.pages
    → HasMade (w.calls ++ report_calls d from r n) (on_report d from r w)
