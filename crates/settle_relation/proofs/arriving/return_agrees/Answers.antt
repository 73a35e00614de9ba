use Rattle.settle_relation.proofs.Reading.{return_agrees_law}
use Rattle.settle_relation.proofs.arriving.return_agrees.Goals as goal

pub returns : goal.returns
returns c = return_agrees_law
