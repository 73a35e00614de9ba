use Rattle.home_laws.proofs.Ends.{abort_is_sound_law}
use Rattle.home_laws.proofs.end_laws.abort_is_sound.Goals as goal

pub returns : goal.returns
returns c = abort_is_sound_law
