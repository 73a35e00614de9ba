use Rattle.page_relation.proofs.LossParts.Views.{reopened_is_related_law}
use Rattle.page_relation.proofs.loss.laws.reopened_is_related.Goals as goal

pub returns : goal.returns
returns c = reopened_is_related_law
