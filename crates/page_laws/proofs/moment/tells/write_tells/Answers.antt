use Rattle.page_laws.proofs.MomentParts.Growing.{write_tells_law}
use Rattle.page_laws.proofs.moment.tells.write_tells.Goals as goal

pub returns : goal.returns
returns c = write_tells_law
