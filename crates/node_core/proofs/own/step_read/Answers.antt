use Rattle.node_parts.specs.State.{node_of}
use Rattle.node_core.specs.Steps.{seen_by}
use Rattle.node_core.proofs.OwnParts.{read_home, read_step, read_view}
use Rattle.node_core.proofs.own.step_read.Goals as goal

pub access-requires-clause-view : goal.access-requires-clause-view
access-requires-clause-view g c = read_view (node_of c.args.parts.now) c.args.tx c.args.page c.requires.none

pub access-requires-clause-none : goal.access-requires-clause-none
access-requires-clause-none g c = read_home (node_of c.args.parts.now) c.args.tx c.args.page c.requires.none

pub returns-clause-step : goal.returns-clause-step
returns-clause-step g c =
    let e = c.access.ensures in
    read_step c.args.parts.now c.access.new.parts c.args.out.now c.access.new.out (seen_by (g.S.Storage.pages c.args.s.now) (g.S.Storage.logs c.args.s.now) (g.S.Storage.stops c.args.s.now) (g.S.Storage.failing c.args.s.now) (g.S.Storage.rooms c.args.s.now) (g.S.Storage.faults c.args.s.now)) (seen_by (g.S.Storage.pages c.access.new.s) (g.S.Storage.logs c.access.new.s) (g.S.Storage.stops c.access.new.s) (g.S.Storage.failing c.access.new.s) (g.S.Storage.rooms c.access.new.s) (g.S.Storage.faults c.access.new.s)) c.access.result c.requires.parts c.requires.replies c.requires.sends
    c.args.tx c.args.page c.requires.none e.comes e.made e.node e.lists e.same e.fault e.sizes e.calm e.quiet (e.counts, e.cause)
