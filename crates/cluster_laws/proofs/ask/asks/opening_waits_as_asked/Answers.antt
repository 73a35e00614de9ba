use Rattle.cluster_laws.proofs.AskParts.Kept.{opening_waits_as_asked_law}
use Rattle.cluster_laws.proofs.ask.asks.opening_waits_as_asked.Goals as goal

pub returns : goal.returns
returns c = opening_waits_as_asked_law
