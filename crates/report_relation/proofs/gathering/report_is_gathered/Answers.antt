use Rattle.report_relation.proofs.Reporting.{report_is_gathered_law}
use Rattle.report_relation.proofs.gathering.report_is_gathered.Goals as goal

pub returns : goal.returns
returns c = report_is_gathered_law
