use Rattle.page_laws.proofs.EntryParts.Gathered.{gathering_is_seen_law}
use Rattle.page_laws.proofs.entry.tables.gathering_is_seen.Goals as goal

pub returns : goal.returns
returns c = gathering_is_seen_law
