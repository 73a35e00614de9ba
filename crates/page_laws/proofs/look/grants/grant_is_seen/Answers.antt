use Rattle.page_laws.proofs.LookParts.Granting.{grant_is_seen_law}
use Rattle.page_laws.proofs.look.grants.grant_is_seen.Goals as goal

pub returns : goal.returns
returns c = grant_is_seen_law
