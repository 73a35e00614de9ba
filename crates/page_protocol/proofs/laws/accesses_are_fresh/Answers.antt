use Rattle.page_protocol.proofs.Keeps.{reached_holds}
use Rattle.page_protocol.proofs.Promises.{fresh_law}
use Rattle.page_protocol.proofs.laws.accesses_are_fresh.Goals as goal

pub returns : goal.returns
returns c = λ blank a r t. fresh_law blank a (reached_holds blank a r) t
