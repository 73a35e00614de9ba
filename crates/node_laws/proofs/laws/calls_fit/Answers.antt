use Rattle.node_laws.proofs.Steps.{calls_fit_law}
use Rattle.node_laws.proofs.laws.calls_fit.Goals as goal

pub returns : goal.returns
returns c = calls_fit_law
