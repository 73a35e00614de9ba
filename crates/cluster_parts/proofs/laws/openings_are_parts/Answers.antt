use Rattle.cluster_parts.proofs.Kept.{openings_are_parts_law}
use Rattle.cluster_parts.proofs.laws.openings_are_parts.Goals as goal

pub returns : goal.returns
returns c = openings_are_parts_law
