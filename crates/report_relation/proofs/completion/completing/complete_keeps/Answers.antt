use Rattle.report_relation.proofs.CompletionParts.Completed.{complete_keeps_law}
use Rattle.report_relation.proofs.completion.completing.complete_keeps.Goals as goal

pub returns : goal.returns
returns c = complete_keeps_law
