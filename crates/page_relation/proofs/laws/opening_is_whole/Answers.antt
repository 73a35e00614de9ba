use Rattle.page_relation.proofs.Opening.{opening_is_whole_law}
use Rattle.page_relation.proofs.laws.opening_is_whole.Goals as goal

pub returns : goal.returns
returns c = opening_is_whole_law
