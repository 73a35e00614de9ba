use Rattle.page_relation.proofs.LossParts.Views.{viewed_is_related_law}
use Rattle.page_relation.proofs.loss.laws.viewed_is_related.Goals as goal

pub returns : goal.returns
returns c = viewed_is_related_law
