use Rattle.page_relation.proofs.LossParts.Quiet.{refused_is_related_law}
use Rattle.page_relation.proofs.loss.laws.refused_is_related.Goals as goal

pub returns : goal.returns
returns c = refused_is_related_law
