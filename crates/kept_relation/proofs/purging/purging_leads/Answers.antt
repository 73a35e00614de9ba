use Rattle.kept_relation.proofs.Purged.{purging_leads_law}
use Rattle.kept_relation.proofs.purging.purging_leads.Goals as goal

pub returns : goal.returns
returns c = purging_leads_law
