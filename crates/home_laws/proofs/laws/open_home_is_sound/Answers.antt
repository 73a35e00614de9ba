use Rattle.home_laws.proofs.Opened.{open_home_is_sound_law}
use Rattle.home_laws.proofs.laws.open_home_is_sound.Goals as goal

pub returns : goal.returns
returns c = open_home_is_sound_law
