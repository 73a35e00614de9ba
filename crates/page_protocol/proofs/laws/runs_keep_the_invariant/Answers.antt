use Rattle.page_protocol.proofs.Keeps.{reached_holds}
use Rattle.page_protocol.proofs.laws.runs_keep_the_invariant.Goals as goal

pub returns : goal.returns
returns c = λ blank a r. reached_holds blank a r
