use Rattle.rule_laws.proofs.Lines.{lines_differ_law}
use Rattle.rule_laws.proofs.texts.lines_differ.Goals as goal

pub returns : goal.returns
returns c = lines_differ_law
