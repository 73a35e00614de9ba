use Rattle.account_commits.proofs.CommitParts.Versions.{commits_have_versions_law}
use Rattle.account_commits.proofs.commits.commits_have_versions.Goals as goal

pub returns : goal.returns
returns c = commits_have_versions_law
