use Rattle.cluster_laws.proofs.SoundRows.{no_message_to_itself_law}
use Rattle.cluster_laws.proofs.sound_rows.no_message_to_itself.Goals as goal

pub returns : goal.returns
returns c = no_message_to_itself_law
