use Rattle.std.proofs.Common.{◌≡◌, Some}
use Rattle.disk_model.specs.Disk.{told_at}
use Rattle.redo_log.proofs.PassingLemmas.{entry_is}
use Rattle.redo_log.proofs.entries.read_entry.Goals as goal

pub returns-clause-entry : goal.returns-clause-entry
returns-clause-entry g c = λ log told.
    let now : told_at (g.S.Storage.logs c.read_head.new.s) c.read_head.new.reader.node ≡ Some log = rw (c.in_ok-head.ensures.logs, c.in_ok-head.ensures.fixed.0) told in
    let part = rw c.size.ensures.value at (c.in_ok-pass_part.ensures.ok log now) in
    entry_is _ _ _ _ _ _ _ (c.in_ok-head.ensures.ok log told) part
