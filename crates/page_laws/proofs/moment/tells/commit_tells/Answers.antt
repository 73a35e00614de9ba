use Rattle.page_laws.proofs.MomentParts.Growing.{commit_tells_law}
use Rattle.page_laws.proofs.moment.tells.commit_tells.Goals as goal

pub returns : goal.returns
returns c = commit_tells_law
