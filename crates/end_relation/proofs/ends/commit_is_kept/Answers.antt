use Rattle.end_relation.proofs.Committed.{commit_is_kept_law}
use Rattle.end_relation.proofs.ends.commit_is_kept.Goals as goal

pub returns : goal.returns
returns c = commit_is_kept_law
