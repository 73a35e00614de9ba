use Rattle.page_laws.proofs.EntryParts.Decided.{settling_decides_law}
use Rattle.page_laws.proofs.entry.settling.settling_decides.Goals as goal

pub returns : goal.returns
returns c = settling_decides_law
