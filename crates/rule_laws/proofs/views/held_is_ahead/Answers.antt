use Rattle.rule_laws.proofs.Successors.{held_is_ahead_law}
use Rattle.rule_laws.proofs.views.held_is_ahead.Goals as goal

pub returns : goal.returns
returns c = held_is_ahead_law
