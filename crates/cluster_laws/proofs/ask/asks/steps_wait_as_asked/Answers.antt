use Rattle.cluster_laws.proofs.AskParts.Kept.{steps_wait_as_asked_law}
use Rattle.cluster_laws.proofs.ask.asks.steps_wait_as_asked.Goals as goal

pub returns : goal.returns
returns c = steps_wait_as_asked_law
