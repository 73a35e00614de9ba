use Rattle.rule_laws.proofs.Successors.{whole_stays_law}
use Rattle.rule_laws.proofs.views.whole_stays.Goals as goal

pub returns : goal.returns
returns c = whole_stays_law
