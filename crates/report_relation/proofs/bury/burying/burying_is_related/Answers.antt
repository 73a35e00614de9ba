use Rattle.report_relation.proofs.BuryParts.Burials.{burying_is_related_law}
use Rattle.report_relation.proofs.bury.burying.burying_is_related.Goals as goal

pub returns : goal.returns
returns c = burying_is_related_law
