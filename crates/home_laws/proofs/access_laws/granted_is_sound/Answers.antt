use Rattle.home_laws.proofs.Granted.{granted_sound}
use Rattle.home_laws.proofs.access_laws.granted_is_sound.Goals as goal

pub returns : goal.returns
returns c = granted_sound
