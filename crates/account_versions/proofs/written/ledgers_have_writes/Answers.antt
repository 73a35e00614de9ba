use Rattle.account_versions.proofs.TraceParts.Closing.{ledgers_have_writes_law}
use Rattle.account_versions.proofs.written.ledgers_have_writes.Goals as goal

pub returns : goal.returns
returns c = ledgers_have_writes_law
