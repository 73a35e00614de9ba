use Rattle.whole_runs.proofs.ReportParts.Known.{reports_may_be_taken_law}
use Rattle.whole_runs.proofs.report.reports.reports_may_be_taken.Goals as goal

pub returns : goal.returns
returns c = reports_may_be_taken_law
