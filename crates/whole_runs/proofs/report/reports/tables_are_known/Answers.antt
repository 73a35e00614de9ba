use Rattle.whole_runs.proofs.ReportParts.Known.{tables_are_known_law}
use Rattle.whole_runs.proofs.report.reports.tables_are_known.Goals as goal

pub returns : goal.returns
returns c = tables_are_known_law
