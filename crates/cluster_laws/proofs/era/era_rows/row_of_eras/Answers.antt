use mathlib.Core.Path.{refl}
use Rattle.cluster_rules.proofs.Opened.{cluster_rules}
use Rattle.cluster_laws.specs.Era.Eras.{era_at, owner_at, born_at, live_at}
use Rattle.cluster_laws.proofs.era.era_rows.row_of_eras.Goals as goal

pub returns : goal.returns
unfolding cluster_rules era_at owner_at born_at live_at
returns c = record { first_era = refl; new_eras = refl; owners = refl; first_life = refl; second_life = refl; live = refl; to_live = refl; lives_on = refl; lost = refl }
