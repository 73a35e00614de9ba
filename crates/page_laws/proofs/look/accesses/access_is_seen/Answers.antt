use Rattle.page_laws.proofs.LookParts.Accessing.{access_is_seen_law}
use Rattle.page_laws.proofs.look.accesses.access_is_seen.Goals as goal

pub returns : goal.returns
returns c = access_is_seen_law
