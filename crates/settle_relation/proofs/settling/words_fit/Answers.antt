use Rattle.settle_relation.proofs.Fitting.{words_fit_law}
use Rattle.settle_relation.proofs.settling.words_fit.Goals as goal

pub returns : goal.returns
returns c = words_fit_law
