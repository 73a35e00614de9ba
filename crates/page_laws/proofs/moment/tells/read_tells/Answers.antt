use Rattle.page_laws.proofs.MomentParts.Growing.{read_tells_law}
use Rattle.page_laws.proofs.moment.tells.read_tells.Goals as goal

pub returns : goal.returns
returns c = read_tells_law
