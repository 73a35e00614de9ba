use Rattle.cluster_facts.proofs.KnownParts.Known.{served_are_known_law}
use Rattle.cluster_facts.proofs.known.births.served_are_known.Goals as goal

pub returns : goal.returns
returns c = served_are_known_law
