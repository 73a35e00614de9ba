use Rattle.listing_laws.proofs.Steps.{lists_are_few_law}
use Rattle.listing_laws.proofs.laws.lists_are_few.Goals as goal

pub returns : goal.returns
returns c = lists_are_few_law
