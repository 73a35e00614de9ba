use Rattle.page_laws.proofs.EntryParts.Tabled.{tables_are_seen_law}
use Rattle.page_laws.proofs.entry.tables.tables_are_seen.Goals as goal

pub returns : goal.returns
returns c = tables_are_seen_law
