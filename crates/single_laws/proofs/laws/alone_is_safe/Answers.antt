use Rattle.single_laws.proofs.Runs.{alone_is_safe_law}
use Rattle.single_laws.proofs.laws.alone_is_safe.Goals as goal

pub returns : goal.returns
returns c = alone_is_safe_law
