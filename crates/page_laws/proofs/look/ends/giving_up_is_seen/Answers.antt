use Rattle.page_laws.proofs.LookParts.Turning.{giving_up_is_seen_law}
use Rattle.page_laws.proofs.look.ends.giving_up_is_seen.Goals as goal

pub returns : goal.returns
returns c = giving_up_is_seen_law
