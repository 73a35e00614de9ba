use Rattle.report_relation.proofs.BuryParts.Lowered.{lowering_is_related_law}
use Rattle.report_relation.proofs.bury.burying.lowering_is_related.Goals as goal

pub returns : goal.returns
returns c = lowering_is_related_law
