use Rattle.page_laws.proofs.LookParts.Granting.{arrival_is_seen_law}
use Rattle.page_laws.proofs.look.grants.arrival_is_seen.Goals as goal

pub returns : goal.returns
returns c = arrival_is_seen_law
