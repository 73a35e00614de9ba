use Rattle.settle_relation.proofs.Requesting.{request_is_kept_law}
use Rattle.settle_relation.proofs.arriving.request_is_kept.Goals as goal

pub returns : goal.returns
returns c = request_is_kept_law
