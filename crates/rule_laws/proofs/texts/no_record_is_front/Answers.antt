use Rattle.rule_laws.proofs.Records.{no_record_is_front_law}
use Rattle.rule_laws.proofs.texts.no_record_is_front.Goals as goal

pub returns : goal.returns
returns c = no_record_is_front_law
