use Rattle.cluster_facts.proofs.ReportsParts.Waiting.{pages_are_marked_law}
use Rattle.cluster_facts.proofs.reports.marked.pages_are_marked.Goals as goal

pub returns : goal.returns
returns c = pages_are_marked_law
