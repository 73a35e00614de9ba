use Rattle.page_relation.proofs.WorkParts.Ended.{refused_is_kept_law}
use Rattle.page_relation.proofs.work.ends.refused_is_kept.Goals as goal

pub returns : goal.returns
returns c = refused_is_kept_law
