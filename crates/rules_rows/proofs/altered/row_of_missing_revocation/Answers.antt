use mathlib.Core.Path.{refl}
use Rattle.rules_rows.proofs.Opened.{all_rules}
use Rattle.rules_rows.proofs.altered.row_of_missing_revocation.Goals as goal

pub returns : goal.returns
unfolding all_rules
returns c = record { printed = refl; uncaused = refl }
