use Rattle.std.proofs.Common.{◌∙◌}
use Rattle.std.specs.Option.{option_copied}
use Rattle.pcl_base.specs.declared.lock.Held.{Held}
use Rattle.pcl_base.specs.declared.lock.Kind.TheVariants.{Own}
use Rattle.pcl_base.specs.declared.tx.Mode.TheVariants.{Shared}
use Rattle.home.proofs.Discarded.{discard_next, copy_there, none_listed, all_discarded}
use Rattle.home.proofs.leave.discard_all.Goals as goal

abbrev first_lock : Held
first_lock = record { page = 0; mode = Shared; kind = Own }

pub discard_copy-requires : goal.discard_copy-requires
discard_copy-requires c =
    copy_there c.args.tx c.args.locks.now c.loop-lock.lock-index first_lock (option_copied c.args.waiting) c.loop-lock.pool c.requires.once c.loop-lock-test.true c.loop-lock.invariant.private

pub loop-lock-preserved : goal.loop-lock-preserved
loop-lock-preserved c =
    let next =
    discard_next c.args.tx c.args.locks.now c.loop-lock.lock-index first_lock (option_copied c.args.waiting) c.args.pool.now c.loop-lock.pool c.discard_copy.new.pool c.requires.once c.loop-lock-test.true
    c.discard_copy.ensures c.loop-lock.invariant.rest c.loop-lock.invariant.private in
    record { rest = next.0; private = next.1 }

pub returns : goal.returns
returns c =
    c.discard_waiting.ensures
    ∙ all_discarded c.args.tx c.args.locks.now c.loop-lock.lock-index (option_copied c.args.waiting) c.args.pool.now c.loop-lock.pool c.loop-lock-test.false c.requires.private c.loop-lock.invariant.rest

pub discard_waiting-requires : goal.discard_waiting-requires
discard_waiting-requires c =
    record { private = λ p none. none_listed c.args.tx c.args.locks.now c.loop-lock.lock-index p (option_copied c.args.waiting) c.loop-lock.pool c.loop-lock-test.false c.loop-lock.invariant.private none }
