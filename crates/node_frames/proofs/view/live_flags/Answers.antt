use Rattle.std.proofs.Common.{[], ◌∷◌, ◌<◌, ◌∙◌, arith, rules, length-append}
use Rattle.node_frames.proofs.ViewLemmas.{flag_read, flag_stopped, flag_one_more, live_one_more}
use Rattle.node_frames.proofs.view.live_flags.Goals as goal

pub returns-in_err-flag-clause-err : goal.returns-in_err-flag-clause-err
returns-in_err-flag-clause-err c =
    let less : c.loop-node.node < c.args.nodes = omega arith in
    let whole = c.loop-node.invariant.0 ∙ flag_stopped _ _ _ _ _ _ less c.in_err-flag.ensures.err in
    search (rules, whole)

pub loop-node-preserved : goal.loop-node-preserved
loop-node-preserved c =
    let less : c.loop-node.node < c.args.nodes = omega arith in
    rw c.in_ok-push.ensures.items (
      c.loop-node.invariant.0 ∙ flag_read _ _ _ _ _ _ _ less c.in_ok-flag.ensures.ok,
      flag_one_more c.loop-node.live.items c.in_ok-flag.flag _ _ _ c.loop-node.invariant.1 c.in_ok-flag.ensures.spelt,
      omega (arith, c.loop-node.invariant.2, length-append c.loop-node.live.items (c.in_ok-flag.flag ∷ [])),
      λ l. live_one_more c.loop-node.live.items c.in_ok-flag.flag c.args.me c.loop-node.node c.loop-node.invariant.2 c.loop-node.invariant.3 c.in_ok-flag.ensures.me l,
    )
