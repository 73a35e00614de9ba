use Rattle.rule_laws.proofs.Turns.{grants_once_law}
use Rattle.rule_laws.proofs.settling.grants_once.Goals as goal

pub returns : goal.returns
returns c = grants_once_law
