use Rattle.cluster_facts.proofs.WaitingParts.Carried.{steps_keep_reached_law}
use Rattle.cluster_facts.proofs.waiting.reached.steps_keep_reached.Goals as goal

pub returns : goal.returns
returns c = steps_keep_reached_law
