use Rattle.std.proofs.Common.{refl}
use Rattle.node_rules.proofs.Opened.{node_rules}
use Rattle.listing_laws.proofs.rows.row_of_steps.Goals as goal

pub returns : goal.returns
unfolding node_rules
returns c = record { install = refl; revocation = refl; no_right = refl; request = refl }
