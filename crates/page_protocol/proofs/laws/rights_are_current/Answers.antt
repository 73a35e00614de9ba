use Rattle.page_protocol.proofs.Keeps.{reached_holds}
use Rattle.page_protocol.proofs.Promises.{rights_law}
use Rattle.page_protocol.proofs.laws.rights_are_current.Goals as goal

pub returns : goal.returns
returns c = λ blank a r. rights_law blank a (reached_holds blank a r)
