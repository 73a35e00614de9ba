use Rattle.report_relation.proofs.CompletionParts.Differing.{no_report_differs_law}
use Rattle.report_relation.proofs.completion.reporting.no_report_differs.Goals as goal

pub returns : goal.returns
returns c = no_report_differs_law
