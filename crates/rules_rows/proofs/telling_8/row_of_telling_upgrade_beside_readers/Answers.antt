use mathlib.Core.Path.{refl}
use Rattle.rules_rows.proofs.Opened.{all_rules}
use Rattle.rules_rows.proofs.telling_8.row_of_telling_upgrade_beside_readers.Goals as goal

pub returns : goal.returns
unfolding all_rules
returns c = record { read = record { read = refl; lines = refl }; printed = refl; safe = refl }
