use Rattle.std.proofs.Common.{refl}
use Rattle.single_laws.proofs.Opened.{node_rules}
use Rattle.single_laws.proofs.rows.row_of_replies.Goals as goal

pub returns : goal.returns
unfolding node_rules
returns c = refl
