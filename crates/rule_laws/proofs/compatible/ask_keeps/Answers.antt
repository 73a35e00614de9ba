use Rattle.rule_laws.proofs.OneWriter.{ask_keeps_law}
use Rattle.rule_laws.proofs.compatible.ask_keeps.Goals as goal

pub returns : goal.returns
returns c = ask_keeps_law
