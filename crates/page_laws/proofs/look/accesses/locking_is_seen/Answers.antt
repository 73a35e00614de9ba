use Rattle.page_laws.proofs.LookParts.Accessing.{locking_is_seen_law}
use Rattle.page_laws.proofs.look.accesses.locking_is_seen.Goals as goal

pub returns : goal.returns
returns c = locking_is_seen_law
