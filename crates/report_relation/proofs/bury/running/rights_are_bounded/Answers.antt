use Rattle.report_relation.proofs.BuryParts.Bounds.{rights_are_bounded_law}
use Rattle.report_relation.proofs.bury.running.rights_are_bounded.Goals as goal

pub returns : goal.returns
returns c = rights_are_bounded_law
