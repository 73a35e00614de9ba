use Rattle.cluster_laws.proofs.LinkParts.Linked.{squares_stay_law}
use Rattle.cluster_laws.proofs.link.links.squares_stay.Goals as goal

pub returns : goal.returns
returns c = squares_stay_law
