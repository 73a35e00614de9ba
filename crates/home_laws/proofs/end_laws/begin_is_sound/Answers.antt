use Rattle.home_laws.proofs.Ends.{begin_is_sound_law}
use Rattle.home_laws.proofs.end_laws.begin_is_sound.Goals as goal

pub returns : goal.returns
returns c = begin_is_sound_law
