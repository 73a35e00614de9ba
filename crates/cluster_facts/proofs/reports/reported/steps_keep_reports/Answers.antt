use Rattle.cluster_facts.proofs.ReportsParts.Awaited.{steps_keep_reports_law}
use Rattle.cluster_facts.proofs.reports.reported.steps_keep_reports.Goals as goal

pub returns : goal.returns
returns c = steps_keep_reports_law
