use Rattle.cluster_laws.proofs.Steps.{up_is_member_law}
use Rattle.cluster_laws.proofs.laws.up_is_member.Goals as goal

pub returns : goal.returns
returns c = up_is_member_law
