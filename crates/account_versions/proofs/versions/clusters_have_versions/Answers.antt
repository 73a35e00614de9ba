use Rattle.account_versions.proofs.TraceParts.Closing.{clusters_have_versions_law}
use Rattle.account_versions.proofs.versions.clusters_have_versions.Goals as goal

pub returns : goal.returns
returns c = clusters_have_versions_law
