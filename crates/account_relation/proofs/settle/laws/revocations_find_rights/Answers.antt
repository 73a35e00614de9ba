use Rattle.account_relation.proofs.SettleParts.Rights.{revocations_find_rights_law}
use Rattle.account_relation.proofs.settle.laws.revocations_find_rights.Goals as goal

pub returns : goal.returns
returns c = revocations_find_rights_law
