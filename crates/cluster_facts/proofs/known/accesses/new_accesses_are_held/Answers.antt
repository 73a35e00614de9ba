use Rattle.cluster_facts.proofs.KnownParts.Granting.{new_accesses_are_held_law}
use Rattle.cluster_facts.proofs.known.accesses.new_accesses_are_held.Goals as goal

pub returns : goal.returns
returns c = new_accesses_are_held_law
