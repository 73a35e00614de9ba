use Rattle.report_relation.proofs.CompletionParts.Looks.{redo_looks_same_law}
use Rattle.report_relation.proofs.completion.completing.redo_looks_same.Goals as goal

pub returns : goal.returns
returns c = redo_looks_same_law
