use Rattle.home_laws.proofs.Leaves.{evict_is_sound_law}
use Rattle.home_laws.proofs.end_laws.evict_is_sound.Goals as goal

pub returns : goal.returns
returns c = evict_is_sound_law
