use Rattle.page_laws.proofs.MomentParts.Growing.{ask_tells_law}
use Rattle.page_laws.proofs.moment.tells.ask_tells.Goals as goal

pub returns : goal.returns
returns c = ask_tells_law
