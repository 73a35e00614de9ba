use Rattle.end_relation.proofs.ReleaseParts.Releasing.{no_release_differs_law}
use Rattle.end_relation.proofs.release.releases.no_release_differs.Goals as goal

pub returns : goal.returns
returns c = no_release_differs_law
