use Rattle.node_core.specs.Steps.{seen_by}
use Rattle.node_core.proofs.Arrived.{deliver_step}
use Rattle.node_core.proofs.arrivals.step_other.Goals as goal

pub returns-clause-step : goal.returns-clause-step
returns-clause-step g c =
    let e = c.deliver_other.ensures in
    deliver_step c.args.parts.now c.deliver_other.new.parts c.args.out.now c.deliver_other.new.out (seen_by (g.S.Storage.pages c.args.s.now) (g.S.Storage.logs c.args.s.now) (g.S.Storage.stops c.args.s.now) (g.S.Storage.failing c.args.s.now) (g.S.Storage.rooms c.args.s.now) (g.S.Storage.faults c.args.s.now)) (seen_by (g.S.Storage.pages c.deliver_other.new.s) (g.S.Storage.logs c.deliver_other.new.s) (g.S.Storage.stops c.deliver_other.new.s) (g.S.Storage.failing c.deliver_other.new.s) (g.S.Storage.rooms c.deliver_other.new.s) (g.S.Storage.faults c.deliver_other.new.s)) c.deliver_other.result c.requires.parts c.requires.replies c.requires.sends
    c.args.from c.args.m.now c.requires.other c.requires.none e.comes e.made e.node e.lists e.same e.fault e.sizes e.calm e.quiet (e.counts, e.cause)
