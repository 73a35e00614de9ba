use Rattle.page_laws.proofs.LookParts.Closing.{abort_is_seen_law}
use Rattle.page_laws.proofs.look.ends.abort_is_seen.Goals as goal

pub returns : goal.returns
returns c = abort_is_seen_law
