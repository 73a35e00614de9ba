use Rattle.std.proofs.Common.{◌≡◌, length, sym, arith}
use Rattle.lock_entry.proofs.Marks.{marked_none, marked_step, marked_end}
use Rattle.lock_entry.proofs.settle.mark_revoked.Goals as goal

pub loop-right-init : goal.loop-right-init
loop-right-init c = sym (marked_none c.args.rights.now)

pub loop-right-preserved : goal.loop-right-preserved
loop-right-preserved c = marked_step _ _ _ _ c.loop-right.invariant c.loop-right-test.true

pub returns : goal.returns
returns c =
    let whole : c.loop-right.right-index ≡ length c.args.rights.now = omega arith in
    marked_end _ _ _ c.loop-right.invariant whole
