use Rattle.end_relation.proofs.ReleaseParts.Releasing.{release_is_kept_law}
use Rattle.end_relation.proofs.release.releases.release_is_kept.Goals as goal

pub returns : goal.returns
returns c = release_is_kept_law
