use Rattle.cluster_facts.proofs.KnownParts.Joined.{steps_have_known_births_law}
use Rattle.cluster_facts.proofs.known.births.steps_have_known_births.Goals as goal

pub returns : goal.returns
returns c = steps_have_known_births_law
