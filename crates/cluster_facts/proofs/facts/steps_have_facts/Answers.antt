use Rattle.cluster_facts.proofs.Joined.{steps_have_facts_law}
use Rattle.cluster_facts.proofs.facts.steps_have_facts.Goals as goal

pub returns : goal.returns
returns c = steps_have_facts_law
