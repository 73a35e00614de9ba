use Rattle.log_cut.proofs.FrontLemmas.{cut_keeps_redo_law}
use Rattle.log_cut.proofs.laws.cut_keeps_redo.Goals as goal

pub returns : goal.returns
returns c = cut_keeps_redo_law
