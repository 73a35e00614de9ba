use Rattle.page_laws.proofs.EntryParts.Tabled.{new_tables_are_idle_law}
use Rattle.page_laws.proofs.entry.tables.new_tables_are_idle.Goals as goal

pub returns : goal.returns
returns c = new_tables_are_idle_law
