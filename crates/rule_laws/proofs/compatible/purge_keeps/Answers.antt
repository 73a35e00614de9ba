use Rattle.rule_laws.proofs.OneWriter.{purge_keeps_law}
use Rattle.rule_laws.proofs.compatible.purge_keeps.Goals as goal

pub returns : goal.returns
returns c = purge_keeps_law
