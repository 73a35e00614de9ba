use Rattle.std.proofs.Common.{refl}
use Rattle.std.specs.Fmt.{digits}
use Rattle.hex.specs.Hex.{encode_with}
use Rattle.text_rules.proofs.line_rows.row_of_texts.Goals as goal

pub returns-clause-read : goal.returns-clause-read
unfolding digits encode_with
returns-clause-read c = refl

pub returns-clause-refused : goal.returns-clause-refused
unfolding digits encode_with
returns-clause-refused c = refl

pub returns-clause-sent : goal.returns-clause-sent
unfolding digits encode_with
returns-clause-sent c = refl

pub returns-clause-whole : goal.returns-clause-whole
unfolding digits encode_with
returns-clause-whole c = refl
