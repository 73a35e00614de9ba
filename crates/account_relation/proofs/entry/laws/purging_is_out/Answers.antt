use Rattle.account_relation.proofs.EntryParts.Changed.{purging_is_out_law}
use Rattle.account_relation.proofs.entry.laws.purging_is_out.Goals as goal

pub returns : goal.returns
returns c = purging_is_out_law
