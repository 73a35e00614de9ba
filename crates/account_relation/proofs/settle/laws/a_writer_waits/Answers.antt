use Rattle.account_relation.proofs.SettleParts.Rights.{a_writer_waits_law}
use Rattle.account_relation.proofs.settle.laws.a_writer_waits.Goals as goal

pub returns : goal.returns
returns c = a_writer_waits_law
