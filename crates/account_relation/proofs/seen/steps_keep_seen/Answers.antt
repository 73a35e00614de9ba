use Rattle.account_relation.proofs.SeenKinds.{steps_keep_seen_law}
use Rattle.account_relation.proofs.seen.steps_keep_seen.Goals as goal

pub returns : goal.returns
returns c = steps_keep_seen_law
