use Rattle.page_relation.proofs.LossParts.Halted.{differing_is_related_law}
use Rattle.page_relation.proofs.loss.laws.differing_is_related.Goals as goal

pub returns : goal.returns
returns c = differing_is_related_law
