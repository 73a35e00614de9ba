use Rattle.page_laws.proofs.LookParts.Turning.{taking_over_is_seen_law}
use Rattle.page_laws.proofs.look.ends.taking_over_is_seen.Goals as goal

pub returns : goal.returns
returns c = taking_over_is_seen_law
