use Rattle.page_laws.proofs.LookParts.Copies.{cleaning_is_seen_law}
use Rattle.page_laws.proofs.look.buffers.cleaning_is_seen.Goals as goal

pub returns : goal.returns
returns c = cleaning_is_seen_law
