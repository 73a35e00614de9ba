use Rattle.page_protocol.proofs.Keeps.{reached_holds}
use Rattle.page_protocol.proofs.Promises.{serial_law}
use Rattle.page_protocol.proofs.laws.committed_scripts_replay.Goals as goal

pub returns : goal.returns
returns c = λ blank a r. serial_law blank a (reached_holds blank a r)
