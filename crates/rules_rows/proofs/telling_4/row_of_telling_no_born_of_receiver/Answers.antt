use mathlib.Core.Path.{refl}
use Rattle.rules_rows.proofs.Opened.{all_rules}
use Rattle.rules_rows.proofs.telling_4.row_of_telling_no_born_of_receiver.Goals as goal

pub returns : goal.returns
unfolding all_rules
returns c = record { read = record { read = refl; lines = refl }; printed = refl; safe = refl }
