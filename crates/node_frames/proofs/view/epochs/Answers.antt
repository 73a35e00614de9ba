use Rattle.std.proofs.Common.{[], ◌∷◌, ◌<◌, ◌∙◌, arith, rules, length-append}
use Rattle.pcl_base.specs.Limits.{is_between}
use Rattle.messages.proofs.ListLemmas.{item_read, item_stopped}
use Rattle.node_frames.proofs.ViewLemmas.{epoch_one_more, all_one_more}
use Rattle.node_frames.proofs.view.epochs.Goals as goal

pub returns-in_err-epoch-clause-err : goal.returns-in_err-epoch-clause-err
returns-in_err-epoch-clause-err c =
    let less : c.loop.counter < c.args.count = omega arith in
    let whole = c.loop.invariant.0 ∙ item_stopped _ _ _ _ _ _ less c.in_err-epoch.ensures.err in
    search (rules, whole)

pub loop-preserved : goal.loop-preserved
loop-preserved c =
    let less : c.loop.counter < c.args.count = omega arith in
    rw c.in_ok-push.ensures.items (
      c.loop.invariant.0 ∙ item_read _ _ _ _ _ _ _ less c.in_ok-epoch.ensures.ok,
      epoch_one_more c.loop.epochs.items c.in_ok-epoch.epoch _ _ _ c.loop.invariant.1 c.in_ok-epoch.ensures.spelt,
      omega (arith, c.loop.invariant.2, length-append c.loop.epochs.items (c.in_ok-epoch.epoch ∷ [])),
      all_one_more (is_between 1 c.args.most) c.loop.epochs.items c.in_ok-epoch.epoch c.loop.invariant.3 c.in_ok-epoch.ensures.within,
    )
