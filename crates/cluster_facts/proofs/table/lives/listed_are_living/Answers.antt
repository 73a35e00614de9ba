use Rattle.cluster_facts.proofs.TableParts.Standing.{listed_are_living_law}
use Rattle.cluster_facts.proofs.table.lives.listed_are_living.Goals as goal

pub returns : goal.returns
returns c = listed_are_living_law
