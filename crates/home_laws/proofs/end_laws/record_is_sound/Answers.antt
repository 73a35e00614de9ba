use Rattle.home_laws.proofs.Records.{record_is_sound_law}
use Rattle.home_laws.proofs.end_laws.record_is_sound.Goals as goal

pub returns : goal.returns
returns c = record_is_sound_law
