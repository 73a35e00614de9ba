use Rattle.cluster_laws.proofs.Moving.{no_view_is_refused_law}
use Rattle.cluster_laws.proofs.view_laws.no_view_is_refused.Goals as goal

pub returns : goal.returns
returns c = no_view_is_refused_law
