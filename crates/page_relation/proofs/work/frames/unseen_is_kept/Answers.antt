use Rattle.page_relation.proofs.WorkParts.Framing.{unseen_is_kept_law}
use Rattle.page_relation.proofs.work.frames.unseen_is_kept.Goals as goal

pub returns : goal.returns
returns c = unseen_is_kept_law
