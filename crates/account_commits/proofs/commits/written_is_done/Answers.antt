use Rattle.account_commits.proofs.CommitParts.Versions.{written_is_done_law}
use Rattle.account_commits.proofs.commits.written_is_done.Goals as goal

pub returns : goal.returns
returns c = written_is_done_law
