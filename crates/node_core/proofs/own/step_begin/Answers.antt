use Rattle.node_core.proofs.CopyParts.{begin_step}
use Rattle.node_core.proofs.own.step_begin.Goals as goal

pub returns-clause-step : goal.returns-clause-step
returns-clause-step c = λ seen sizes.
    let e = c.begin.ensures in
    begin_step c.args.parts.now c.begin.new.parts c.args.out.now c.begin.new.out seen c.begin.result c.requires.parts c.requires.replies c.requires.sends
    c.requires.none e.comes e.node e.lists e.same e.fault sizes
