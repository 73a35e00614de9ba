use Rattle.cluster_facts.proofs.Joined.{opening_has_facts_law}
use Rattle.cluster_facts.proofs.facts.opening_has_facts.Goals as goal

pub returns : goal.returns
returns c = opening_has_facts_law
