use Rattle.page_relation.proofs.WorkParts.Simple.{untaken_is_kept_law}
use Rattle.page_relation.proofs.work.events.untaken_is_kept.Goals as goal

pub returns : goal.returns
returns c = untaken_is_kept_law
