use Rattle.cluster_laws.proofs.Numbered.{last_view_is_whole_law}
use Rattle.cluster_laws.proofs.view_laws.last_view_is_whole.Goals as goal

pub returns : goal.returns
returns c = last_view_is_whole_law
