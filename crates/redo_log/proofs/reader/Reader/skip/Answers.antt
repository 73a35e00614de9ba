use Rattle.std.proofs.Common.{arith}
use Rattle.redo_log.proofs.PieceLemmas.{piece_passed}
use Rattle.redo_log.proofs.reader.Reader.skip.Goals as goal

pub returns-clause-ok : goal.returns-clause-ok
returns-clause-ok c = λ log reads. piece_passed _ _ log _ c.self.view_is reads (omega arith)
