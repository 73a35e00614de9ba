use Rattle.account_versions.proofs.TraceParts.Closing.{runs_have_versions_law}
use Rattle.account_versions.proofs.versions.runs_have_versions.Goals as goal

pub returns : goal.returns
returns c = runs_have_versions_law
