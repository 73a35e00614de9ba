use Rattle.home_laws.proofs.Puts.{put_change_is_sound_law}
use Rattle.home_laws.proofs.end_laws.put_change_is_sound.Goals as goal

pub returns : goal.returns
returns c = put_change_is_sound_law
