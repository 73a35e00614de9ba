use Rattle.page_laws.proofs.EntryParts.Looked.{asking_is_seen_law}
use Rattle.page_laws.proofs.entry.looks.asking_is_seen.Goals as goal

pub returns : goal.returns
returns c = asking_is_seen_law
