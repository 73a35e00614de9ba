use Rattle.rule_laws.proofs.Turns.{others_wait_on_law}
use Rattle.rule_laws.proofs.settling.others_wait_on.Goals as goal

pub returns : goal.returns
returns c = others_wait_on_law
