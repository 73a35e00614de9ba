use Rattle.rule_laws.proofs.Turns.{grants_waited_law}
use Rattle.rule_laws.proofs.settling.grants_waited.Goals as goal

pub returns : goal.returns
returns c = grants_waited_law
