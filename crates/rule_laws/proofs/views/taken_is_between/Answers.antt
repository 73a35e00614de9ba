use Rattle.rule_laws.proofs.Successors.{taken_is_between_law}
use Rattle.rule_laws.proofs.views.taken_is_between.Goals as goal

pub returns : goal.returns
returns c = taken_is_between_law
