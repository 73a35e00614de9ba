use Rattle.whole_runs.proofs.Redoing.{steps_keep_pages_law}
use Rattle.whole_runs.proofs.runs.steps_keep_pages.Goals as goal

pub returns : goal.returns
returns c = steps_keep_pages_law
