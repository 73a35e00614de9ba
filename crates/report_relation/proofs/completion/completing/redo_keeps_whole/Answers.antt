use Rattle.report_relation.proofs.CompletionParts.Looks.{redo_keeps_whole_law}
use Rattle.report_relation.proofs.completion.completing.redo_keeps_whole.Goals as goal

pub returns : goal.returns
returns c = redo_keeps_whole_law
