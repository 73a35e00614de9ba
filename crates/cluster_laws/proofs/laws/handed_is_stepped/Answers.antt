use Rattle.cluster_laws.proofs.Cases.{handed_is_stepped_law}
use Rattle.cluster_laws.proofs.laws.handed_is_stepped.Goals as goal

pub returns : goal.returns
returns c = handed_is_stepped_law
