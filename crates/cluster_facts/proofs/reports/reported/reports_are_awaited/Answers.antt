use Rattle.cluster_facts.proofs.ReportsParts.Awaited.{reports_are_awaited_law}
use Rattle.cluster_facts.proofs.reports.reported.reports_are_awaited.Goals as goal

pub returns : goal.returns
returns c = reports_are_awaited_law
