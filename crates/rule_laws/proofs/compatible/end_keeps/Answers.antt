use Rattle.rule_laws.proofs.OneWriter.{end_keeps_law}
use Rattle.rule_laws.proofs.compatible.end_keeps.Goals as goal

pub returns : goal.returns
returns c = end_keeps_law
