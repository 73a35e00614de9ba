use Rattle.redo_log.proofs.PieceLemmas.{slice_long}
use Rattle.redo_log.proofs.reader.Reader.stop.Goals as goal

pub returns-clause-left : goal.returns-clause-left
returns-clause-left c = λ log reads. slice_long log c.args.self.now.place c.args.self.now.limit reads.within
