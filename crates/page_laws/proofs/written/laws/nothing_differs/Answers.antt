use Rattle.page_laws.proofs.WrittenParts.Differing.{nothing_differs_law}
use Rattle.page_laws.proofs.written.laws.nothing_differs.Goals as goal

pub returns : goal.returns
returns c = nothing_differs_law
