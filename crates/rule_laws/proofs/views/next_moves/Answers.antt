use Rattle.rule_laws.proofs.Successors.{next_moves_law}
use Rattle.rule_laws.proofs.views.next_moves.Goals as goal

pub returns : goal.returns
returns c = next_moves_law
