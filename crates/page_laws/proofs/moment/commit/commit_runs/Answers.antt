use Rattle.page_laws.proofs.MomentParts.Committing.{commit_runs_law}
use Rattle.page_laws.proofs.moment.commit.commit_runs.Goals as goal

pub returns : goal.returns
returns c = commit_runs_law
