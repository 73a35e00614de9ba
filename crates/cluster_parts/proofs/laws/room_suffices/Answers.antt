use Rattle.cluster_parts.proofs.Room.{room_suffices_law}
use Rattle.cluster_parts.proofs.laws.room_suffices.Goals as goal

pub returns : goal.returns
returns c = room_suffices_law
