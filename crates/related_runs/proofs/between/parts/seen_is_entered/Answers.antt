use Rattle.related_runs.proofs.BetweenParts.Seen.{seen_is_entered_law}
use Rattle.related_runs.proofs.between.parts.seen_is_entered.Goals as goal

pub returns : goal.returns
returns c = seen_is_entered_law
