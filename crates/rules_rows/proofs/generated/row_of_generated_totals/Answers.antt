use mathlib.Core.Path.{refl}
use Rattle.rules_rows.proofs.Opened.{all_rules}
use Rattle.rules_rows.proofs.generated.row_of_generated_totals.Goals as goal

pub returns : goal.returns
unfolding all_rules
returns c = refl
