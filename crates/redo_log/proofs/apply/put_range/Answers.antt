use Rattle.std.proofs.Common.{◌≡◌, Some, arith}
use Rattle.disk_model.specs.Disk.{told_at}
use Rattle.redo_log.proofs.PuttingLemmas.{head_kept, range_put_at}
use Rattle.redo_log.proofs.apply.put_range.Goals as goal

pub returns-in_err-copy-clause-head : goal.returns-in_err-copy-clause-head
returns-in_err-copy-clause-head g c = head_kept c.args.raw.now c.copy.new.out c.in_ok-place.field-0 _ (omega (arith, c.in_ok-place.ensures.within, c.in_ok-count.ensures.within))

pub returns-clause-head : goal.returns-clause-head
returns-clause-head g c = head_kept c.args.raw.now c.copy.new.out c.in_ok-place.field-0 _ (omega (arith, c.in_ok-place.ensures.within, c.in_ok-count.ensures.within))

pub returns-clause-ok : goal.returns-clause-ok
returns-clause-ok g c = λ log told n.
    let then : told_at (g.S.Storage.logs c.between16.new.s) c.between16.new.reader.node ≡ Some log = rw (c.in_ok-place.ensures.logs, c.in_ok-place.ensures.fixed.0) told in
    let now : told_at (g.S.Storage.logs c.between16-2.new.s) c.between16-2.new.reader.node ≡ Some log = rw (c.in_ok-count.ensures.logs, c.in_ok-count.ensures.fixed.0) then in
    range_put_at c.args.size c.args.low n c.in_ok-place.field-0 c.in_ok-count.field-0 _ _ _ _ _ _ c.copy.new.out c.args.raw.now (c.in_ok-place.ensures.ok log told) (c.in_ok-count.ensures.ok log then) (c.in_ok-copy.ensures.ok log now) (omega (arith, c.in_ok-place.ensures.within, c.in_ok-count.ensures.within)) (omega arith) (omega (arith, c.in_ok-place.ensures.within, c.in_ok-count.ensures.within))
