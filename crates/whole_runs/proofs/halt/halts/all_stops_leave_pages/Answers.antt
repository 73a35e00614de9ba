use Rattle.whole_runs.proofs.HaltParts.Stopping.{all_stops_leave_pages_law}
use Rattle.whole_runs.proofs.halt.halts.all_stops_leave_pages.Goals as goal

pub returns : goal.returns
returns c = all_stops_leave_pages_law
