use mathlib.Core.Path.{refl}
use Rattle.cluster_rules.proofs.Opened.{cluster_rules}
use Rattle.cluster_laws.proofs.era.era_rows.row_of_counts.Goals as goal

pub returns : goal.returns
unfolding cluster_rules
returns c = record { unborn = refl; born = refl; first_view = refl; sender_dropped = refl; down = refl }
