use Rattle.page_laws.proofs.LookParts.Granting.{spending_is_seen_law}
use Rattle.page_laws.proofs.look.grants.spending_is_seen.Goals as goal

pub returns : goal.returns
returns c = spending_is_seen_law
