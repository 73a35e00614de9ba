use Rattle.page_relation.proofs.WorkParts.Resting.{rest_stays_law}
use Rattle.page_relation.proofs.work.frames.rest_stays.Goals as goal

pub returns : goal.returns
returns c = rest_stays_law
