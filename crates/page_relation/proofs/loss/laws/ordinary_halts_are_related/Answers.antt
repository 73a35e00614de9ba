use Rattle.page_relation.proofs.LossParts.Ordinary.{ordinary_halts_are_related_law}
use Rattle.page_relation.proofs.loss.laws.ordinary_halts_are_related.Goals as goal

pub returns : goal.returns
returns c = ordinary_halts_are_related_law
