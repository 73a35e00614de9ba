use Rattle.end_relation.proofs.Going.{commit_goes_law}
use Rattle.end_relation.proofs.ends.commit_goes.Goals as goal

pub returns : goal.returns
returns c = commit_goes_law
