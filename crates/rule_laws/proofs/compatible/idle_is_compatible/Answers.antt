use Rattle.rule_laws.proofs.OneWriter.{idle_is_compatible_law}
use Rattle.rule_laws.proofs.compatible.idle_is_compatible.Goals as goal

pub returns : goal.returns
returns c = idle_is_compatible_law
