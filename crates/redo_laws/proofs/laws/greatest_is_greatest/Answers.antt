use Rattle.redo_laws.proofs.Greatest.{greatest_is_greatest_law}
use Rattle.redo_laws.proofs.laws.greatest_is_greatest.Goals as goal

pub returns : goal.returns
returns c = greatest_is_greatest_law
