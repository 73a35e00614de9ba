use Rattle.whole_runs.proofs.ActParts.Whole.{acted_is_kept_law}
use Rattle.whole_runs.proofs.act.acted.acted_is_kept.Goals as goal

pub returns : goal.returns
returns c = acted_is_kept_law
