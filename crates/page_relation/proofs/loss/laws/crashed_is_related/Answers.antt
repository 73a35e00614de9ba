use Rattle.page_relation.proofs.LossParts.Crashes.{crashed_is_related_law}
use Rattle.page_relation.proofs.loss.laws.crashed_is_related.Goals as goal

pub returns : goal.returns
returns c = crashed_is_related_law
