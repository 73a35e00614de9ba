use Rattle.kept_relation.proofs.Spared.{coming_is_spared_early_law}
use Rattle.kept_relation.proofs.gone.coming_is_spared_early.Goals as goal

pub returns : goal.returns
returns c = coming_is_spared_early_law
