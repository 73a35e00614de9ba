use Rattle.whole_runs.proofs.ActParts.Pages.{acts_leave_pages_law}
use Rattle.whole_runs.proofs.act.leaving.acts_leave_pages.Goals as goal

pub returns : goal.returns
returns c = acts_leave_pages_law
