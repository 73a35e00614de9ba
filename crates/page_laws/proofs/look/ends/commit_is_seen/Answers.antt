use Rattle.page_laws.proofs.LookParts.Closing.{commit_is_seen_law}
use Rattle.page_laws.proofs.look.ends.commit_is_seen.Goals as goal

pub returns : goal.returns
returns c = commit_is_seen_law
