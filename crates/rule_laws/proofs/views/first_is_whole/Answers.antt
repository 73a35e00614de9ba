use Rattle.rule_laws.proofs.Successors.{first_is_whole_law}
use Rattle.rule_laws.proofs.views.first_is_whole.Goals as goal

pub returns : goal.returns
returns c = first_is_whole_law
