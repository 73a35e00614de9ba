use Rattle.kept_relation.proofs.Clear.{clear_stays_law}
use Rattle.kept_relation.proofs.clearing.clear_stays.Goals as goal

pub returns : goal.returns
returns c = clear_stays_law
