use Rattle.related_runs.proofs.BetweenParts.Seen.{entered_is_seen_law}
use Rattle.related_runs.proofs.between.parts.entered_is_seen.Goals as goal

pub returns : goal.returns
returns c = entered_is_seen_law
