use Rattle.report_relation.proofs.CompletionParts.Agreed.{complete_agrees_law}
use Rattle.report_relation.proofs.completion.completing.complete_agrees.Goals as goal

pub returns : goal.returns
returns c = complete_agrees_law
