use Rattle.settle_relation.proofs.Counting.{coming_is_not_past_law}
use Rattle.settle_relation.proofs.settling.coming_is_not_past.Goals as goal

pub returns : goal.returns
returns c = coming_is_not_past_law
