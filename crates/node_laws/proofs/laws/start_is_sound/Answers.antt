use Rattle.node_laws.proofs.Starts.{start_is_sound_law}
use Rattle.node_laws.proofs.laws.start_is_sound.Goals as goal

pub returns : goal.returns
returns c = start_is_sound_law
