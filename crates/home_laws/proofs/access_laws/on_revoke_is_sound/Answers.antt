use Rattle.home_laws.proofs.Revoked.{on_revoke_sound}
use Rattle.home_laws.proofs.access_laws.on_revoke_is_sound.Goals as goal

pub returns : goal.returns
returns c = on_revoke_sound
