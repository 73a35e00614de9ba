use Rattle.account_strands.proofs.Opening.{opening_has_items_law}
use Rattle.account_strands.proofs.opening_has_items.Goals as goal

pub returns : goal.returns
returns c = opening_has_items_law
