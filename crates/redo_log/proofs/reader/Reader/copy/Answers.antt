use Rattle.std.proofs.Common.{◌≡◌, Some, ap, arith}
use Rattle.disk_model.specs.Disk.{told_at}
use Rattle.redo_log.proofs.PieceLemmas.{copied_at}
use Rattle.redo_log.proofs.reader.Reader.copy.Goals as goal

pub returns-clause-ok : goal.returns-clause-ok
returns-clause-ok g c = λ log told.
    let now : told_at (g.S.Storage.logs c.args.s.now) c.self.inside.node ≡ Some log = rw (ap (λ v. v.node) c.self.view_is) told in
    let copied = rw now at c.in_ok-read_log.ensures.value in
    copied_at _ _ log _ _ c.self.view_is (c.requires.reads log told) (omega arith) copied
