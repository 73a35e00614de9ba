use Rattle.page_laws.proofs.EntryParts.Looked.{returning_is_seen_law}
use Rattle.page_laws.proofs.entry.looks.returning_is_seen.Goals as goal

pub returns : goal.returns
returns c = returning_is_seen_law
