use Rattle.page_relation.proofs.WorkParts.Simple.{evict_is_kept_law}
use Rattle.page_relation.proofs.work.events.evict_is_kept.Goals as goal

pub returns : goal.returns
returns c = evict_is_kept_law
