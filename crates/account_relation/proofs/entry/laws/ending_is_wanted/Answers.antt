use Rattle.account_relation.proofs.EntryParts.Changed.{ending_is_wanted_law}
use Rattle.account_relation.proofs.entry.laws.ending_is_wanted.Goals as goal

pub returns : goal.returns
returns c = ending_is_wanted_law
