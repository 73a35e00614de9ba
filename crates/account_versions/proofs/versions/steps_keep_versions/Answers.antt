use Rattle.account_versions.proofs.TraceParts.Closing.{steps_keep_versions_law}
use Rattle.account_versions.proofs.versions.steps_keep_versions.Goals as goal

pub returns : goal.returns
returns c = steps_keep_versions_law
