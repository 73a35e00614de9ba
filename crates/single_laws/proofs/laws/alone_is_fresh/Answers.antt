use Rattle.single_laws.proofs.Runs.{alone_is_fresh_law}
use Rattle.single_laws.proofs.laws.alone_is_fresh.Goals as goal

pub returns : goal.returns
returns c = alone_is_fresh_law
