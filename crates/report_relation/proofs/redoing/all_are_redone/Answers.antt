use Rattle.report_relation.proofs.AllRedone.{all_are_redone_law}
use Rattle.report_relation.proofs.redoing.all_are_redone.Goals as goal

pub returns : goal.returns
returns c = all_are_redone_law
