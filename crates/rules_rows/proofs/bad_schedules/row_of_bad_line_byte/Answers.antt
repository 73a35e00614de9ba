use mathlib.Core.Path.{refl}
use Rattle.rules_rows.proofs.Opened.{all_rules}
use Rattle.rules_rows.proofs.bad_schedules.row_of_bad_line_byte.Goals as goal

pub returns : goal.returns
unfolding all_rules
returns c = record { bad = refl; printed = refl }
