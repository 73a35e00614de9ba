use Rattle.cluster_facts.proofs.KnownParts.Joined.{opening_has_known_births_law}
use Rattle.cluster_facts.proofs.known.births.opening_has_known_births.Goals as goal

pub returns : goal.returns
returns c = opening_has_known_births_law
