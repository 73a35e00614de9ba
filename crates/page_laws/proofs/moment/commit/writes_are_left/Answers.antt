use Rattle.page_laws.proofs.MomentParts.ByPage.{writes_are_left_law}
use Rattle.page_laws.proofs.moment.commit.writes_are_left.Goals as goal

pub returns : goal.returns
returns c = writes_are_left_law
