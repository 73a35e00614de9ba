use Rattle.whole_runs.proofs.ActParts.Answering.{no_act_differs_law}
use Rattle.whole_runs.proofs.act.acted.no_act_differs.Goals as goal

pub returns : goal.returns
returns c = no_act_differs_law
