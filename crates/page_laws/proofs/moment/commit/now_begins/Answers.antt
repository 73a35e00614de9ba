use Rattle.page_laws.proofs.MomentParts.Committing.{now_begins_law}
use Rattle.page_laws.proofs.moment.commit.now_begins.Goals as goal

pub returns : goal.returns
returns c = now_begins_law
