use Rattle.page_relation.proofs.WorkParts.Simple.{cut_is_kept_law}
use Rattle.page_relation.proofs.work.events.cut_is_kept.Goals as goal

pub returns : goal.returns
returns c = cut_is_kept_law
