use Rattle.std.proofs.Common.{refl}
use Rattle.std.specs.Fmt.{digits}
use Rattle.text_rules.proofs.generator_rows.row_of_a_failure.Goals as goal

pub returns : goal.returns
unfolding digits
returns c = refl
