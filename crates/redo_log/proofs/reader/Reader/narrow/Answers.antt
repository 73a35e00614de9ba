use Rattle.std.proofs.Common.{arith}
use Rattle.redo_log.proofs.PieceLemmas.{piece_narrowed}
use Rattle.redo_log.proofs.reader.Reader.narrow.Goals as goal

pub returns-clause-ok : goal.returns-clause-ok
returns-clause-ok c = λ log reads. piece_narrowed _ _ log _ c.self.view_is reads (omega arith)
