use Rattle.account_relation.proofs.GrantParts.Owners.{owners_get_no_rights_law}
use Rattle.account_relation.proofs.grant.laws.owners_get_no_rights.Goals as goal

pub returns : goal.returns
returns c = owners_get_no_rights_law
