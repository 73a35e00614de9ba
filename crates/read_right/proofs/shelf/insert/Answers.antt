use Rattle.std.proofs.Common.{nat_eq, true, ◌∙◌}
use Rattle.indexmap.proofs.CallerLemmas.{insert_entry-new}
use Rattle.read_right.proofs.shelf.insert.Goals as goal

pub returns-clause-entries : goal.returns-clause-entries
returns-clause-entries c = c.in-Ok-None.ensures.entries ∙ insert_entry-new nat_eq c.args.rights.now c.args.page (record { version = c.args.version; readers = c.args.readers; ready = true }) c.requires.absent
