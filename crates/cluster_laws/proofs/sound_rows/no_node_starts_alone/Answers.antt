use Rattle.cluster_laws.proofs.SoundRows.{no_node_starts_alone_law}
use Rattle.cluster_laws.proofs.sound_rows.no_node_starts_alone.Goals as goal

pub returns : goal.returns
returns c = no_node_starts_alone_law
