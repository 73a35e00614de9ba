use Rattle.settle_relation.proofs.Reading.{request_agrees_law}
use Rattle.settle_relation.proofs.arriving.request_agrees.Goals as goal

pub returns : goal.returns
returns c = request_agrees_law
