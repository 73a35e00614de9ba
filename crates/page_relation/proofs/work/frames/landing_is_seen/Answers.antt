use Rattle.page_relation.proofs.WorkParts.Landed.{landing_is_seen_law}
use Rattle.page_relation.proofs.work.frames.landing_is_seen.Goals as goal

pub returns : goal.returns
returns c = landing_is_seen_law
