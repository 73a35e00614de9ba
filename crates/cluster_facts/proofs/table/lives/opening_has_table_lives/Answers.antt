use Rattle.cluster_facts.proofs.TableParts.Carried.{opening_has_table_lives_law}
use Rattle.cluster_facts.proofs.table.lives.opening_has_table_lives.Goals as goal

pub returns : goal.returns
returns c = opening_has_table_lives_law
