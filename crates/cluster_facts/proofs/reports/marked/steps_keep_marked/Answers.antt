use Rattle.cluster_facts.proofs.ReportsParts.Waiting.{steps_keep_marked_law}
use Rattle.cluster_facts.proofs.reports.marked.steps_keep_marked.Goals as goal

pub returns : goal.returns
returns c = steps_keep_marked_law
