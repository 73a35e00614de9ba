use Rattle.kept_relation.proofs.TurnParts.Getting.{new_table_is_rebuilt_law}
use Rattle.kept_relation.proofs.turn.views.new_table_is_rebuilt.Goals as goal

pub returns : goal.returns
returns c = new_table_is_rebuilt_law
