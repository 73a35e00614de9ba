use Rattle.page_laws.proofs.LookParts.Turning.{change_is_seen_law}
use Rattle.page_laws.proofs.look.ends.change_is_seen.Goals as goal

pub returns : goal.returns
returns c = change_is_seen_law
