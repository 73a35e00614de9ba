use Rattle.account_relation.proofs.SeenSteps.{opening_is_seen_law}
use Rattle.account_relation.proofs.seen.opening_is_seen.Goals as goal

pub returns : goal.returns
returns c = opening_is_seen_law
