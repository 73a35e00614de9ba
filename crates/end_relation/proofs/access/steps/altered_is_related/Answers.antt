use Rattle.end_relation.proofs.AccessParts.Altered.{altered_is_related_law}
use Rattle.end_relation.proofs.access.steps.altered_is_related.Goals as goal

pub returns : goal.returns
returns c = altered_is_related_law
