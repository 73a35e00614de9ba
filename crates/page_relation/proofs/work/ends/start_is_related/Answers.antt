use Rattle.page_relation.proofs.WorkParts.Started.{start_is_related_law}
use Rattle.page_relation.proofs.work.ends.start_is_related.Goals as goal

pub returns : goal.returns
returns c = start_is_related_law
