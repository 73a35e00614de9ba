use Rattle.rebuild.proofs.Entries.{is_ok}
use Rattle.rebuild.proofs.Purged.{page_purged}
use Rattle.rebuild.proofs.purging.purge_page.Goals as goal

pub returns : goal.returns
returns c =
    page_purged c.args.live.now c.args.t.now _ c.args.page c.in_ok-entry.field-0.now c.purge.new.self c.requires.there c.in_ok-entry.ensures.value
    (c.entry.follows.holds c.purge.new.self (is_ok c.entry.result c.in_ok-entry.field-0 c.in_ok-entry.was)) c.purge.ensures
