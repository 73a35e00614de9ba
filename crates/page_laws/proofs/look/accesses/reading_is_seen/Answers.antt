use Rattle.page_laws.proofs.LookParts.Accessing.{reading_is_seen_law}
use Rattle.page_laws.proofs.look.accesses.reading_is_seen.Goals as goal

pub returns : goal.returns
returns c = reading_is_seen_law
