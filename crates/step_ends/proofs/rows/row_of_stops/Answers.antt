use Rattle.std.proofs.Common.{refl}
use Rattle.step_ends.proofs.rows.row_of_stops.Goals as goal

pub returns : goal.returns
returns c = record { nearer = refl; of_another = refl }
