use Rattle.end_relation.proofs.ReleaseParts.Laws.{own_end_elsewhere_law}
use Rattle.end_relation.proofs.release.own.own_end_elsewhere.Goals as goal

pub returns : goal.returns
returns c = own_end_elsewhere_law
