use Rattle.rule_laws.proofs.Successors.{never_falls_law}
use Rattle.rule_laws.proofs.views.never_falls.Goals as goal

pub returns : goal.returns
returns c = never_falls_law
