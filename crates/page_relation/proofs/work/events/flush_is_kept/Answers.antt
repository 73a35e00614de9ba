use Rattle.page_relation.proofs.WorkParts.Simple.{flush_is_kept_law}
use Rattle.page_relation.proofs.work.events.flush_is_kept.Goals as goal

pub returns : goal.returns
returns c = flush_is_kept_law
