use Rattle.rule_laws.proofs.OneWriter.{writer_is_alone_law}
use Rattle.rule_laws.proofs.compatible.writer_is_alone.Goals as goal

pub returns : goal.returns
returns c = writer_is_alone_law
