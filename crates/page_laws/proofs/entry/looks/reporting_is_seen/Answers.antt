use Rattle.page_laws.proofs.EntryParts.Looked.{reporting_is_seen_law}
use Rattle.page_laws.proofs.entry.looks.reporting_is_seen.Goals as goal

pub returns : goal.returns
returns c = reporting_is_seen_law
