use Rattle.account_relation.proofs.EntryParts.Changed.{asking_is_wanted_law}
use Rattle.account_relation.proofs.entry.laws.asking_is_wanted.Goals as goal

pub returns : goal.returns
returns c = asking_is_wanted_law
