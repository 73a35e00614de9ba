use Rattle.page_laws.proofs.LookParts.Copies.{leaving_is_seen_law}
use Rattle.page_laws.proofs.look.buffers.leaving_is_seen.Goals as goal

pub returns : goal.returns
returns c = leaving_is_seen_law
