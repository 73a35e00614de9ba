use Rattle.page_protocol.proofs.Keeps.{keeps}
use Rattle.page_protocol.proofs.laws.steps_keep_the_invariant.Goals as goal

pub returns : goal.returns
returns c = λ blank a b s i. keeps blank s i
