use Rattle.node_laws.proofs.Starts.{first_is_sound_law}
use Rattle.node_laws.proofs.laws.first_is_sound.Goals as goal

pub returns : goal.returns
returns c = first_is_sound_law
