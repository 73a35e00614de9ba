use Rattle.page_laws.proofs.LookParts.Granting.{shelves_are_seen_law}
use Rattle.page_laws.proofs.look.grants.shelves_are_seen.Goals as goal

pub returns : goal.returns
returns c = shelves_are_seen_law
