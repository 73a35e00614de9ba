use Rattle.page_laws.proofs.EntryParts.Looked.{purging_is_seen_law}
use Rattle.page_laws.proofs.entry.looks.purging_is_seen.Goals as goal

pub returns : goal.returns
returns c = purging_is_seen_law
