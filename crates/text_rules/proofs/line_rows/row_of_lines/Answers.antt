use Rattle.std.proofs.Common.{refl}
use Rattle.std.specs.Fmt.{digits}
use Rattle.hex.specs.Hex.{encode_with}
use Rattle.text_rules.proofs.line_rows.row_of_lines.Goals as goal

pub returns-clause-write : goal.returns-clause-write
unfolding digits encode_with
returns-clause-write c = refl

pub returns-clause-empty : goal.returns-clause-empty
unfolding digits encode_with
returns-clause-empty c = refl

pub returns-clause-view : goal.returns-clause-view
unfolding digits encode_with
returns-clause-view c = refl

pub returns-clause-header : goal.returns-clause-header
unfolding digits encode_with
returns-clause-header c = refl
