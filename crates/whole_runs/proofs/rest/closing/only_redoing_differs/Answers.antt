use Rattle.whole_runs.proofs.RestParts.Left.{only_redoing_differs_law}
use Rattle.whole_runs.proofs.rest.closing.only_redoing_differs.Goals as goal

pub returns : goal.returns
returns c = only_redoing_differs_law
