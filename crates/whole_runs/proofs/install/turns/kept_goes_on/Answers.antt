use Rattle.whole_runs.proofs.InstallParts.Going.{kept_goes_on_law}
use Rattle.whole_runs.proofs.install.turns.kept_goes_on.Goals as goal

pub returns : goal.returns
returns c = kept_goes_on_law
