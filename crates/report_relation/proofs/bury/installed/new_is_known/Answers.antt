use Rattle.report_relation.proofs.BuryParts.NewTables.{new_is_known_law}
use Rattle.report_relation.proofs.bury.installed.new_is_known.Goals as goal

pub returns : goal.returns
returns c = new_is_known_law
