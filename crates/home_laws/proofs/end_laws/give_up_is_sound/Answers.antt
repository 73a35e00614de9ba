use Rattle.home_laws.proofs.Given.{give_up_is_sound_law}
use Rattle.home_laws.proofs.end_laws.give_up_is_sound.Goals as goal

pub returns : goal.returns
returns c = give_up_is_sound_law
