use Rattle.report_relation.proofs.CompletionParts.Reported.{report_is_kept_law}
use Rattle.report_relation.proofs.completion.reporting.report_is_kept.Goals as goal

pub returns : goal.returns
returns c = report_is_kept_law
