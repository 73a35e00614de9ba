use Rattle.related_runs.proofs.BetweenParts.Events.{events_are_all_law}
use Rattle.related_runs.proofs.between.kinds.events_are_all.Goals as goal

pub returns : goal.returns
returns c = events_are_all_law
