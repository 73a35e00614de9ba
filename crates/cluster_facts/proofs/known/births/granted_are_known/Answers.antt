use Rattle.cluster_facts.proofs.KnownParts.Known.{granted_are_known_law}
use Rattle.cluster_facts.proofs.known.births.granted_are_known.Goals as goal

pub returns : goal.returns
returns c = granted_are_known_law
