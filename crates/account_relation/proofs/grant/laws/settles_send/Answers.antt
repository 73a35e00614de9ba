use Rattle.account_relation.proofs.GrantParts.Carried.{settles_send_law}
use Rattle.account_relation.proofs.grant.laws.settles_send.Goals as goal

pub returns : goal.returns
returns c = settles_send_law
