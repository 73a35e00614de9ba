use Rattle.cluster_facts.proofs.WaitingParts.Standing.{waiters_have_reached_law}
use Rattle.cluster_facts.proofs.waiting.reached.waiters_have_reached.Goals as goal

pub returns : goal.returns
returns c = waiters_have_reached_law
