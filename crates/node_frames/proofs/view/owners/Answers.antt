use Rattle.std.proofs.Common.{length, [], ◌∷◌, ◌<◌, ◌∙◌, arith, rules, length-append}
use Rattle.frame_rules.specs.Frames.{is_live_node}
use Rattle.messages.proofs.ListLemmas.{item_read, item_stopped}
use Rattle.node_frames.proofs.ViewLemmas.{byte_one_more, all_one_more}
use Rattle.node_frames.proofs.view.owners.Goals as goal

pub returns-in_err-owner-clause-err : goal.returns-in_err-owner-clause-err
returns-in_err-owner-clause-err c =
    let less : c.loop.counter < length c.args.live.now = omega arith in
    let whole = c.loop.invariant.0 ∙ item_stopped _ _ _ _ _ _ less c.in_err-owner.ensures.err in
    search (rules, whole)

pub loop-preserved : goal.loop-preserved
loop-preserved c =
    let less : c.loop.counter < length c.args.live.now = omega arith in
    rw c.in_ok-push.ensures.items (
      c.loop.invariant.0 ∙ item_read _ _ _ _ _ _ _ less c.in_ok-owner.ensures.ok,
      byte_one_more c.loop.owners.items c.in_ok-owner.owner _ _ _ c.loop.invariant.1 c.in_ok-owner.ensures.spelt,
      omega (arith, c.loop.invariant.2, length-append c.loop.owners.items (c.in_ok-owner.owner ∷ [])),
      all_one_more (is_live_node c.args.live.now) c.loop.owners.items c.in_ok-owner.owner c.loop.invariant.3 c.in_ok-owner.ensures.is_live,
    )
