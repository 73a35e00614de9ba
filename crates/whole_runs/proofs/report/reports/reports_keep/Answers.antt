use Rattle.whole_runs.proofs.ReportParts.Kept.{reports_keep_law}
use Rattle.whole_runs.proofs.report.reports.reports_keep.Goals as goal

pub returns : goal.returns
returns c = reports_keep_law
