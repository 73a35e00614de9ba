use Rattle.account_relation.proofs.EntryParts.Changed.{returning_is_out_law}
use Rattle.account_relation.proofs.entry.laws.returning_is_out.Goals as goal

pub returns : goal.returns
returns c = returning_is_out_law
