use mathlib.Core.Path.{refl}
use Rattle.cluster_rules.proofs.Opened.{cluster_rules}
use Rattle.cluster_laws.specs.Link.Coming.{coming}
use Rattle.cluster_laws.proofs.link.link_rows.row_of_coming.Goals as goal

pub returns : goal.returns
unfolding cluster_rules coming
returns c = record { of_each = refl; one_way = refl; taken = refl; answered = refl; lost = refl; still = refl; past = refl; ahead = refl }
