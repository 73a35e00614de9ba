use Rattle.home_laws.proofs.Given.{born_at_is_sound_law}
use Rattle.home_laws.proofs.end_laws.born_at_is_sound.Goals as goal

pub returns : goal.returns
returns c = born_at_is_sound_law
