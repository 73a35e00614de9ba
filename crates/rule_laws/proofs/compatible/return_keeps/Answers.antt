use Rattle.rule_laws.proofs.OneWriter.{return_keeps_law}
use Rattle.rule_laws.proofs.compatible.return_keeps.Goals as goal

pub returns : goal.returns
returns c = return_keeps_law
