use Rattle.settle_relation.proofs.Returning.{return_is_kept_law}
use Rattle.settle_relation.proofs.arriving.return_is_kept.Goals as goal

pub returns : goal.returns
returns c = return_is_kept_law
