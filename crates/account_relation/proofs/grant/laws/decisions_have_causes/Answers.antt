use Rattle.account_relation.proofs.GrantParts.Caused.{decisions_have_causes_law}
use Rattle.account_relation.proofs.grant.laws.decisions_have_causes.Goals as goal

pub returns : goal.returns
returns c = decisions_have_causes_law
