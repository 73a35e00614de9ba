use Rattle.page_protocol.proofs.Promises.{history_law}
use Rattle.page_protocol.proofs.laws.history_stays.Goals as goal

pub returns : goal.returns
returns c = λ a b r. history_law a b r
