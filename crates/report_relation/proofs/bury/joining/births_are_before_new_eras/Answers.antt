use Rattle.report_relation.proofs.BuryParts.Joined.{births_are_before_new_eras_law}
use Rattle.report_relation.proofs.bury.joining.births_are_before_new_eras.Goals as goal

pub returns : goal.returns
returns c = births_are_before_new_eras_law
