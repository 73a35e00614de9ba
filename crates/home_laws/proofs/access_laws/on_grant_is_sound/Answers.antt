use Rattle.home_laws.proofs.Arrived.{on_grant_sound}
use Rattle.home_laws.proofs.access_laws.on_grant_is_sound.Goals as goal

pub returns : goal.returns
returns c = on_grant_sound
