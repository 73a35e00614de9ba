use Rattle.cluster_facts.proofs.TableParts.Standing.{gathered_are_living_law}
use Rattle.cluster_facts.proofs.table.lives.gathered_are_living.Goals as goal

pub returns : goal.returns
returns c = gathered_are_living_law
