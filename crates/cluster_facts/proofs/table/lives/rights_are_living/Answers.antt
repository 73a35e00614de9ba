use Rattle.cluster_facts.proofs.TableParts.Standing.{rights_are_living_law}
use Rattle.cluster_facts.proofs.table.lives.rights_are_living.Goals as goal

pub returns : goal.returns
returns c = rights_are_living_law
