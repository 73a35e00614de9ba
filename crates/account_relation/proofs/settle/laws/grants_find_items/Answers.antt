use Rattle.account_relation.proofs.SettleParts.Settling.{grants_find_items_law}
use Rattle.account_relation.proofs.settle.laws.grants_find_items.Goals as goal

pub returns : goal.returns
returns c = grants_find_items_law
