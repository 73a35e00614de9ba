use mathlib.Core.Path.{refl}
use Rattle.rules_rows.proofs.Opened.{all_rules}
use Rattle.rules_rows.proofs.generated.row_of_too_many_open_safe.Goals as goal

pub returns-clause-from_0 : goal.returns-clause-from_0
unfolding all_rules
returns-clause-from_0 c = refl

pub returns-clause-from_64 : goal.returns-clause-from_64
unfolding all_rules
returns-clause-from_64 c = refl

pub returns-clause-from_128 : goal.returns-clause-from_128
unfolding all_rules
returns-clause-from_128 c = refl

pub returns-clause-from_192 : goal.returns-clause-from_192
unfolding all_rules
returns-clause-from_192 c = refl

pub returns-clause-from_256 : goal.returns-clause-from_256
unfolding all_rules
returns-clause-from_256 c = refl

pub returns-clause-from_320 : goal.returns-clause-from_320
unfolding all_rules
returns-clause-from_320 c = refl

pub returns-clause-from_384 : goal.returns-clause-from_384
unfolding all_rules
returns-clause-from_384 c = refl

pub returns-clause-from_448 : goal.returns-clause-from_448
unfolding all_rules
returns-clause-from_448 c = refl

pub returns-clause-from_512 : goal.returns-clause-from_512
unfolding all_rules
returns-clause-from_512 c = refl

pub returns-clause-from_576 : goal.returns-clause-from_576
unfolding all_rules
returns-clause-from_576 c = refl

pub returns-clause-from_640 : goal.returns-clause-from_640
unfolding all_rules
returns-clause-from_640 c = refl

pub returns-clause-from_704 : goal.returns-clause-from_704
unfolding all_rules
returns-clause-from_704 c = refl

pub returns-clause-from_768 : goal.returns-clause-from_768
unfolding all_rules
returns-clause-from_768 c = refl

pub returns-clause-from_832 : goal.returns-clause-from_832
unfolding all_rules
returns-clause-from_832 c = refl

pub returns-clause-from_896 : goal.returns-clause-from_896
unfolding all_rules
returns-clause-from_896 c = refl

pub returns-clause-from_960 : goal.returns-clause-from_960
unfolding all_rules
returns-clause-from_960 c = refl

pub returns-clause-from_1024 : goal.returns-clause-from_1024
unfolding all_rules
returns-clause-from_1024 c = refl
