use Rattle.cluster_facts.proofs.WaitingParts.Carried.{opening_has_reached_law}
use Rattle.cluster_facts.proofs.waiting.reached.opening_has_reached.Goals as goal

pub returns : goal.returns
returns c = opening_has_reached_law
