use Rattle.cluster_laws.proofs.Numbered.{views_are_numbered_law}
use Rattle.cluster_laws.proofs.view_laws.views_are_numbered.Goals as goal

pub returns : goal.returns
returns c = views_are_numbered_law
