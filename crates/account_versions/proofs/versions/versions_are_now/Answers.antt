use Rattle.account_versions.proofs.TraceParts.Closing.{versions_are_now_law}
use Rattle.account_versions.proofs.versions.versions_are_now.Goals as goal

pub returns : goal.returns
returns c = versions_are_now_law
