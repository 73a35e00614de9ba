use Rattle.cluster_facts.proofs.ReportsParts.NoRights.{unviewed_have_no_right_law}
use Rattle.cluster_facts.proofs.reports.unviewed.unviewed_have_no_right.Goals as goal

pub returns : goal.returns
returns c = unviewed_have_no_right_law
