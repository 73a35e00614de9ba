use Rattle.page_laws.proofs.LookParts.Copies.{writing_back_is_seen_law}
use Rattle.page_laws.proofs.look.buffers.writing_back_is_seen.Goals as goal

pub returns : goal.returns
returns c = writing_back_is_seen_law
