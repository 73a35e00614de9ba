use Rattle.rule_laws.proofs.OneWriter.{settling_keeps_law}
use Rattle.rule_laws.proofs.compatible.settling_keeps.Goals as goal

pub returns : goal.returns
returns c = settling_keeps_law
