use Rattle.single_laws.proofs.Runs.{alone_is_accounted_law}
use Rattle.single_laws.proofs.laws.alone_is_accounted.Goals as goal

pub returns : goal.returns
returns c = alone_is_accounted_law
