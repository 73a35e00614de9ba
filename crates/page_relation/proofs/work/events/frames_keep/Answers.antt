use Rattle.page_relation.proofs.WorkParts.Letting.{frames_keep_law}
use Rattle.page_relation.proofs.work.events.frames_keep.Goals as goal

pub returns : goal.returns
returns c = frames_keep_law
