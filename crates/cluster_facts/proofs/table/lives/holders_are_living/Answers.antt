use Rattle.cluster_facts.proofs.TableParts.Standing.{holders_are_living_law}
use Rattle.cluster_facts.proofs.table.lives.holders_are_living.Goals as goal

pub returns : goal.returns
returns c = holders_are_living_law
