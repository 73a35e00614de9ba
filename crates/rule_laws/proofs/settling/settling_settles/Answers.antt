use Rattle.rule_laws.proofs.Turns.{settling_settles_law}
use Rattle.rule_laws.proofs.settling.settling_settles.Goals as goal

pub returns : goal.returns
returns c = settling_settles_law
