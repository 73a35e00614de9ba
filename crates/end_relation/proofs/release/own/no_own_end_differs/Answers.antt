use Rattle.end_relation.proofs.ReleaseParts.Laws.{no_own_end_differs_law}
use Rattle.end_relation.proofs.release.own.no_own_end_differs.Goals as goal

pub returns : goal.returns
returns c = no_own_end_differs_law
