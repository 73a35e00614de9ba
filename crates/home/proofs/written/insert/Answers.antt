use Rattle.std.proofs.Common.{◌∙◌}
use Rattle.indexmap.proofs.CallerLemmas.{insert_entry-new}
use Rattle.home.specs.Places.{same_key}
use Rattle.home.proofs.written.insert.Goals as goal

pub returns-clause-entries : goal.returns-clause-entries
returns-clause-entries c = c.in-Ok-None.ensures.entries ∙ insert_entry-new same_key c.args.pages.now c.args.key c.args.runs c.requires.absent
