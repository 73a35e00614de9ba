use Rattle.page_laws.proofs.MomentParts.Growing.{nothing_tells_law}
use Rattle.page_laws.proofs.moment.tells.nothing_tells.Goals as goal

pub returns : goal.returns
returns c = nothing_tells_law
