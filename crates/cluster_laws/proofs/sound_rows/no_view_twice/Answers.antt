use Rattle.cluster_laws.proofs.SoundRows.{no_view_twice_law}
use Rattle.cluster_laws.proofs.sound_rows.no_view_twice.Goals as goal

pub returns : goal.returns
returns c = no_view_twice_law
