use Rattle.cluster_facts.proofs.KnownParts.Staying.{known_stays_law}
use Rattle.cluster_facts.proofs.known.births.known_stays.Goals as goal

pub returns : goal.returns
returns c = known_stays_law
