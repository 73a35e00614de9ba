use Rattle.account_versions.proofs.AskedParts.Stepping.{steps_have_asked_writes_law}
use Rattle.account_versions.proofs.asked.steps_have_asked_writes.Goals as goal

pub returns : goal.returns
returns c = steps_have_asked_writes_law
