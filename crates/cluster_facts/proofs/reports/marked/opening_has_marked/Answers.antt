use Rattle.cluster_facts.proofs.ReportsParts.Waiting.{opening_has_marked_law}
use Rattle.cluster_facts.proofs.reports.marked.opening_has_marked.Goals as goal

pub returns : goal.returns
returns c = opening_has_marked_law
