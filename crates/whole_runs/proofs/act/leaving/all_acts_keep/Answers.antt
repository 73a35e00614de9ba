use Rattle.whole_runs.proofs.ActParts.Pages.{all_acts_keep_law}
use Rattle.whole_runs.proofs.act.leaving.all_acts_keep.Goals as goal

pub returns : goal.returns
returns c = all_acts_keep_law
