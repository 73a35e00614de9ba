use Rattle.whole_runs.proofs.HaltParts.Stopping.{all_stops_are_related_law}
use Rattle.whole_runs.proofs.halt.halts.all_stops_are_related.Goals as goal

pub returns : goal.returns
returns c = all_stops_are_related_law
