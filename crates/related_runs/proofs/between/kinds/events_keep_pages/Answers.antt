use Rattle.related_runs.proofs.BetweenParts.Events.{events_keep_pages_law}
use Rattle.related_runs.proofs.between.kinds.events_keep_pages.Goals as goal

pub returns : goal.returns
returns c = events_keep_pages_law
