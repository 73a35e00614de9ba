use Rattle.kept_relation.proofs.Unlisted.{gone_are_closed_law}
use Rattle.kept_relation.proofs.gone.gone_are_closed.Goals as goal

pub returns : goal.returns
returns c = gone_are_closed_law
