use Rattle.end_relation.proofs.ReleaseParts.Laws.{own_is_unreported_law}
use Rattle.end_relation.proofs.release.own.own_is_unreported.Goals as goal

pub returns : goal.returns
returns c = own_is_unreported_law
