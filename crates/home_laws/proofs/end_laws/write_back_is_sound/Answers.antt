use Rattle.home_laws.proofs.Leaves.{write_back_is_sound_law}
use Rattle.home_laws.proofs.end_laws.write_back_is_sound.Goals as goal

pub returns : goal.returns
returns c = write_back_is_sound_law
