use Rattle.settle_relation.proofs.Deciding.{deciding_is_related_law}
use Rattle.settle_relation.proofs.settling.deciding_is_related.Goals as goal

pub returns : goal.returns
returns c = deciding_is_related_law
