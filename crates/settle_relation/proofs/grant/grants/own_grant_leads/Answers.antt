use Rattle.settle_relation.proofs.GrantParts.Accepting.{own_grant_leads_law}
use Rattle.settle_relation.proofs.grant.grants.own_grant_leads.Goals as goal

pub returns : goal.returns
returns c = own_grant_leads_law
