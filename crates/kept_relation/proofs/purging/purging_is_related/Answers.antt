use Rattle.kept_relation.proofs.Purged.{purging_is_related_law}
use Rattle.kept_relation.proofs.purging.purging_is_related.Goals as goal

pub returns : goal.returns
returns c = purging_is_related_law
