use Rattle.page_laws.proofs.EntryParts.Writers.{writers_wait_for_nothing_law}
use Rattle.page_laws.proofs.entry.settling.writers_wait_for_nothing.Goals as goal

pub returns : goal.returns
returns c = writers_wait_for_nothing_law
