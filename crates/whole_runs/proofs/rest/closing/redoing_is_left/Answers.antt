use Rattle.whole_runs.proofs.RestParts.Left.{redoing_is_left_law}
use Rattle.whole_runs.proofs.rest.closing.redoing_is_left.Goals as goal

pub returns : goal.returns
returns c = redoing_is_left_law
