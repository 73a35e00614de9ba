use Rattle.page_relation.proofs.LossParts.Quiet.{armed_is_related_law}
use Rattle.page_relation.proofs.loss.laws.armed_is_related.Goals as goal

pub returns : goal.returns
returns c = armed_is_related_law
