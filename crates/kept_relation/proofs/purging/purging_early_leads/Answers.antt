use Rattle.kept_relation.proofs.Purged.{purging_early_leads_law}
use Rattle.kept_relation.proofs.purging.purging_early_leads.Goals as goal

pub returns : goal.returns
returns c = purging_early_leads_law
