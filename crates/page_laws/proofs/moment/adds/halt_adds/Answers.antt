use Rattle.page_laws.proofs.MomentParts.Entries.{halt_adds_law}
use Rattle.page_laws.proofs.moment.adds.halt_adds.Goals as goal

pub returns : goal.returns
returns c = halt_adds_law
