use mathlib.Core.Path.{refl}
use Rattle.rules_rows.proofs.Opened.{all_rules}
use Rattle.rules_rows.proofs.stops_2.row_of_stop_at_node0_call1_force_j0.Goals as goal

pub returns : goal.returns
unfolding all_rules
returns c = record { read = record { read = refl; lines = refl }; printed = refl; safe = refl }
