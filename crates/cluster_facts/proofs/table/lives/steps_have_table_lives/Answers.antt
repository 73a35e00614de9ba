use Rattle.cluster_facts.proofs.TableParts.Carried.{steps_have_table_lives_law}
use Rattle.cluster_facts.proofs.table.lives.steps_have_table_lives.Goals as goal

pub returns : goal.returns
returns c = steps_have_table_lives_law
