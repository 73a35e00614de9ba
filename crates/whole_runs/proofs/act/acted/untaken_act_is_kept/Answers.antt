use Rattle.whole_runs.proofs.ActParts.Simple.{untaken_acts}
use Rattle.whole_runs.proofs.act.acted.untaken_act_is_kept.Goals as goal

pub returns : goal.returns
returns c = untaken_acts
