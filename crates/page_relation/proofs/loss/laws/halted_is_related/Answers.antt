use Rattle.page_relation.proofs.LossParts.Halted.{halted_is_related_law}
use Rattle.page_relation.proofs.loss.laws.halted_is_related.Goals as goal

pub returns : goal.returns
returns c = halted_is_related_law
