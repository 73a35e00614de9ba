use Rattle.page_relation.proofs.WorkParts.Beginning.{begin_is_kept_law}
use Rattle.page_relation.proofs.work.events.begin_is_kept.Goals as goal

pub returns : goal.returns
returns c = begin_is_kept_law
