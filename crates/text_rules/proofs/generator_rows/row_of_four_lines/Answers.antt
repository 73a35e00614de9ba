use Rattle.std.proofs.Common.{refl}
use Rattle.std.specs.Fmt.{digits}
use Rattle.hex.specs.Hex.{encode_with}
use Rattle.text_rules.proofs.generator_rows.row_of_four_lines.Goals as goal

pub returns : goal.returns
unfolding digits encode_with
returns c = refl
