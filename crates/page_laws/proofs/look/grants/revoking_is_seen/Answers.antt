use Rattle.page_laws.proofs.LookParts.Granting.{revoking_is_seen_law}
use Rattle.page_laws.proofs.look.grants.revoking_is_seen.Goals as goal

pub returns : goal.returns
returns c = revoking_is_seen_law
