use Rattle.cluster_facts.proofs.ReportsParts.Opened.{opening_has_reports_law}
use Rattle.cluster_facts.proofs.reports.reported.opening_has_reports.Goals as goal

pub returns : goal.returns
returns c = opening_has_reports_law
