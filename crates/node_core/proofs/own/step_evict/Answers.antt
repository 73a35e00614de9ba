use Rattle.node_core.specs.Steps.{seen_by}
use Rattle.node_core.proofs.CopyParts.{evict_step}
use Rattle.node_core.proofs.own.step_evict.Goals as goal

pub returns-clause-step : goal.returns-clause-step
returns-clause-step g c =
    let e = c.evict.ensures in
    evict_step c.args.parts.now c.evict.new.parts c.args.out.now c.evict.new.out (seen_by (g.S.Storage.pages c.args.s.now) (g.S.Storage.logs c.args.s.now) (g.S.Storage.stops c.args.s.now) (g.S.Storage.failing c.args.s.now) (g.S.Storage.rooms c.args.s.now) (g.S.Storage.faults c.args.s.now)) (seen_by (g.S.Storage.pages c.evict.new.s) (g.S.Storage.logs c.evict.new.s) (g.S.Storage.stops c.evict.new.s) (g.S.Storage.failing c.evict.new.s) (g.S.Storage.rooms c.evict.new.s) (g.S.Storage.faults c.evict.new.s)) c.evict.result c.requires.parts c.requires.replies c.requires.sends
    c.args.page c.requires.none e.comes e.made e.node e.lists e.same e.fault e.sizes e.failing (e.counts, e.cause)
