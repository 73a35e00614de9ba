use Rattle.page_protocol.proofs.Keeps.{reached_holds}
use Rattle.page_protocol.proofs.Promises.{durable_law}
use Rattle.page_protocol.proofs.laws.redo_gives_the_current_page.Goals as goal

pub returns : goal.returns
returns c = λ blank a r. durable_law blank a (reached_holds blank a r)
