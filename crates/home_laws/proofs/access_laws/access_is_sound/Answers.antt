use Rattle.home_laws.proofs.Accessed.{access_sound}
use Rattle.home_laws.proofs.access_laws.access_is_sound.Goals as goal

pub returns : goal.returns
returns c = access_sound
