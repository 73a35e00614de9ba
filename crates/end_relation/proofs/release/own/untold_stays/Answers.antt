use Rattle.end_relation.proofs.ReleaseParts.Laws.{untold_stays_law}
use Rattle.end_relation.proofs.release.own.untold_stays.Goals as goal

pub returns : goal.returns
returns c = untold_stays_law
