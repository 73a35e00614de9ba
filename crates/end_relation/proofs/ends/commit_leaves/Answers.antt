use Rattle.end_relation.proofs.Committed.{commit_leaves_law}
use Rattle.end_relation.proofs.ends.commit_leaves.Goals as goal

pub returns : goal.returns
returns c = commit_leaves_law
