use Rattle.page_laws.proofs.MomentParts.Committing.{now_has_pages_law}
use Rattle.page_laws.proofs.moment.commit.now_has_pages.Goals as goal

pub returns : goal.returns
returns c = now_has_pages_law
