use Rattle.cluster_parts.proofs.Kept.{coming_keeps_parts_law}
use Rattle.cluster_parts.proofs.laws.coming_keeps_parts.Goals as goal

pub returns : goal.returns
returns c = coming_keeps_parts_law
