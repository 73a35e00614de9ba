use Rattle.account_versions.proofs.TraceParts.Closing.{runs_have_asked_writes_law}
use Rattle.account_versions.proofs.asked.runs_have_asked_writes.Goals as goal

pub returns : goal.returns
returns c = runs_have_asked_writes_law
