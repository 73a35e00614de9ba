use Rattle.page_laws.proofs.LookParts.Accessing.{writing_is_seen_law}
use Rattle.page_laws.proofs.look.accesses.writing_is_seen.Goals as goal

pub returns : goal.returns
returns c = writing_is_seen_law
