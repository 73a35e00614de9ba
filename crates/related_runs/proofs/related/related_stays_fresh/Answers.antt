use Rattle.related_runs.proofs.FreshSteps.{related_stays_fresh_law}
use Rattle.related_runs.proofs.related.related_stays_fresh.Goals as goal

pub returns : goal.returns
returns c = related_stays_fresh_law
