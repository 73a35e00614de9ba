use Rattle.report_relation.proofs.CompletionParts.Beside.{complete_is_beside_law}
use Rattle.report_relation.proofs.completion.completing.complete_is_beside.Goals as goal

pub returns : goal.returns
returns c = complete_is_beside_law
