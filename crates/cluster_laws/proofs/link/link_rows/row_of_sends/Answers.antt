use mathlib.Core.Path.{refl}
use Rattle.cluster_laws.specs.Link.Coming.{sent_to}
use Rattle.cluster_laws.proofs.link.link_rows.row_of_sends.Goals as goal

pub returns : goal.returns
unfolding sent_to
returns c = record { in_order = refl; to_nobody = refl }
