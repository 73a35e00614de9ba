use Rattle.page_protocol.proofs.Keeps.{reached_holds}
use Rattle.page_protocol.proofs.Promises.{brings_law}
use Rattle.page_protocol.proofs.laws.grants_bring_the_current_page.Goals as goal

pub returns : goal.returns
returns c = λ blank a r g. brings_law blank a (reached_holds blank a r) g
