use Rattle.page_laws.proofs.LookParts.Accessing.{waiting_is_seen_law}
use Rattle.page_laws.proofs.look.accesses.waiting_is_seen.Goals as goal

pub returns : goal.returns
returns c = waiting_is_seen_law
