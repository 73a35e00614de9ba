use Rattle.page_laws.proofs.MomentParts.Growing.{empty_tells_law}
use Rattle.page_laws.proofs.moment.tells.empty_tells.Goals as goal

pub returns : goal.returns
returns c = empty_tells_law
