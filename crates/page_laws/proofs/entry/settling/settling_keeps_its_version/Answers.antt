use Rattle.page_laws.proofs.EntryParts.Decided.{settling_keeps_its_version_law}
use Rattle.page_laws.proofs.entry.settling.settling_keeps_its_version.Goals as goal

pub returns : goal.returns
returns c = settling_keeps_its_version_law
