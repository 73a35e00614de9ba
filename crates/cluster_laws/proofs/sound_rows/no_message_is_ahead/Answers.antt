use Rattle.cluster_laws.proofs.SoundRows.{no_message_is_ahead_law}
use Rattle.cluster_laws.proofs.sound_rows.no_message_is_ahead.Goals as goal

pub returns : goal.returns
returns c = no_message_is_ahead_law
