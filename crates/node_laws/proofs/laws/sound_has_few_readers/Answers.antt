use Rattle.node_laws.proofs.Readers.{sound_has_few_readers_law}
use Rattle.node_laws.proofs.laws.sound_has_few_readers.Goals as goal

pub returns : goal.returns
returns c = sound_has_few_readers_law
