use Rattle.rule_laws.proofs.Records.{records_differ_law}
use Rattle.rule_laws.proofs.texts.records_differ.Goals as goal

pub returns : goal.returns
returns c = records_differ_law
