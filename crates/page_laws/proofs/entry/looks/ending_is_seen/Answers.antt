use Rattle.page_laws.proofs.EntryParts.Looked.{ending_is_seen_law}
use Rattle.page_laws.proofs.entry.looks.ending_is_seen.Goals as goal

pub returns : goal.returns
returns c = ending_is_seen_law
