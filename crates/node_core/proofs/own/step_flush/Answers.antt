use Rattle.node_core.specs.Steps.{seen_by}
use Rattle.node_core.proofs.CopyParts.{flush_step}
use Rattle.node_core.proofs.own.step_flush.Goals as goal

pub returns-clause-step : goal.returns-clause-step
returns-clause-step g c =
    let e = c.flush.ensures in
    flush_step c.args.parts.now c.flush.new.parts c.args.out.now c.flush.new.out (seen_by (g.S.Storage.pages c.args.s.now) (g.S.Storage.logs c.args.s.now) (g.S.Storage.stops c.args.s.now) (g.S.Storage.failing c.args.s.now) (g.S.Storage.rooms c.args.s.now) (g.S.Storage.faults c.args.s.now)) (seen_by (g.S.Storage.pages c.flush.new.s) (g.S.Storage.logs c.flush.new.s) (g.S.Storage.stops c.flush.new.s) (g.S.Storage.failing c.flush.new.s) (g.S.Storage.rooms c.flush.new.s) (g.S.Storage.faults c.flush.new.s)) c.flush.result c.requires.parts c.requires.replies c.requires.sends
    c.args.page c.requires.none e.comes e.made e.node e.lists e.same e.fault e.sizes e.failing (e.counts, e.cause)
