use Rattle.home_laws.proofs.Partitions.{take_over_is_sound_law}
use Rattle.home_laws.proofs.end_laws.take_over_is_sound.Goals as goal

pub returns : goal.returns
returns c = take_over_is_sound_law
