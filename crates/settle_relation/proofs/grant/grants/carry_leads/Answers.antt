use Rattle.settle_relation.proofs.GrantParts.Accepting.{carry_leads_law}
use Rattle.settle_relation.proofs.grant.grants.carry_leads.Goals as goal

pub returns : goal.returns
returns c = carry_leads_law
