use Rattle.page_laws.proofs.MomentParts.Committing.{pages_are_now_law}
use Rattle.page_laws.proofs.moment.commit.pages_are_now.Goals as goal

pub returns : goal.returns
returns c = pages_are_now_law
