use Rattle.account_relation.proofs.EntryParts.Changed.{reporting_is_out_law}
use Rattle.account_relation.proofs.entry.laws.reporting_is_out.Goals as goal

pub returns : goal.returns
returns c = reporting_is_out_law
