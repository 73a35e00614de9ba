use Rattle.cluster_facts.proofs.ReportsParts.NoRights.{steps_keep_unviewed_law}
use Rattle.cluster_facts.proofs.reports.unviewed.steps_keep_unviewed.Goals as goal

pub returns : goal.returns
returns c = steps_keep_unviewed_law
