use Rattle.rule_laws.proofs.Successors.{dropped_stays_law}
use Rattle.rule_laws.proofs.views.dropped_stays.Goals as goal

pub returns : goal.returns
returns c = dropped_stays_law
