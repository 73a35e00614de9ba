use Rattle.account_versions.proofs.TraceParts.Scripts.{scripts_have_writes_law}
use Rattle.account_versions.proofs.written.scripts_have_writes.Goals as goal

pub returns : goal.returns
returns c = scripts_have_writes_law
