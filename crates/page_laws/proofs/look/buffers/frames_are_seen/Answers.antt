use Rattle.page_laws.proofs.LookParts.Copies.{frames_are_seen_law}
use Rattle.page_laws.proofs.look.buffers.frames_are_seen.Goals as goal

pub returns : goal.returns
returns c = frames_are_seen_law
