use Rattle.cluster_facts.proofs.ReportsParts.NoRights.{opening_has_no_rights_law}
use Rattle.cluster_facts.proofs.reports.unviewed.opening_has_no_rights.Goals as goal

pub returns : goal.returns
returns c = opening_has_no_rights_law
