use Rattle.home_laws.proofs.Leaves.{clean_is_sound_law}
use Rattle.home_laws.proofs.end_laws.clean_is_sound.Goals as goal

pub returns : goal.returns
returns c = clean_is_sound_law
