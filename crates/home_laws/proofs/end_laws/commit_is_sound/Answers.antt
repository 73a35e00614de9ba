use Rattle.home_laws.proofs.Ends.{commit_is_sound_law}
use Rattle.home_laws.proofs.end_laws.commit_is_sound.Goals as goal

pub returns : goal.returns
returns c = commit_is_sound_law
