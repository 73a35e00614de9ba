use Rattle.std.proofs.Common.{refl}
use Rattle.redo_log.proofs.PieceLemmas.{taken_at}
use Rattle.redo_log.proofs.reader.Reader.copy_shown.Goals as goal

pub returns-clause-value : goal.returns-clause-value
returns-clause-value c = λ log reads. taken_at _ _ log c.self.inside.piece _ c.self.inside.count _ c.self.view_is refl reads c.requires.from c.requires.there c.requires.within c.copy_from_slice.ensures.after
