use Rattle.account_versions.proofs.AskedParts.Stepping.{opening_has_asked_writes_law}
use Rattle.account_versions.proofs.asked.opening_has_asked_writes.Goals as goal

pub returns : goal.returns
returns c = opening_has_asked_writes_law
