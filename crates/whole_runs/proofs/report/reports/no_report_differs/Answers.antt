use Rattle.whole_runs.proofs.ReportParts.Agreed.{no_report_differs_law}
use Rattle.whole_runs.proofs.report.reports.no_report_differs.Goals as goal

pub returns : goal.returns
returns c = no_report_differs_law
