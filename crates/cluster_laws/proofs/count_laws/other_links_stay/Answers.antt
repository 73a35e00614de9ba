use Rattle.cluster_laws.proofs.Counts.{other_links_stay_law}
use Rattle.cluster_laws.proofs.count_laws.other_links_stay.Goals as goal

pub returns : goal.returns
returns c = other_links_stay_law
