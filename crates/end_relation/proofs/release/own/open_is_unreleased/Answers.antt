use Rattle.end_relation.proofs.ReleaseParts.Laws.{open_is_unreleased_law}
use Rattle.end_relation.proofs.release.own.open_is_unreleased.Goals as goal

pub returns : goal.returns
returns c = open_is_unreleased_law
