use Rattle.std.proofs.Common.{refl}
use Rattle.single_laws.proofs.Opened.{node_rules}
use Rattle.single_laws.proofs.rows.row_of_open_counts.Goals as goal

pub returns-clause-up : goal.returns-clause-up
unfolding node_rules
returns-clause-up c = refl
