use Rattle.whole_runs.proofs.InstallParts.Early.{waiters_are_heard_law}
use Rattle.whole_runs.proofs.install.turns.waiters_are_heard.Goals as goal

pub returns : goal.returns
returns c = waiters_are_heard_law
