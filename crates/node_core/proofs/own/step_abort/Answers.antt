use Rattle.node_core.specs.Steps.{seen_by}
use Rattle.node_core.proofs.OwnParts.{abort_step}
use Rattle.node_core.proofs.Stepping.{sizes_same}
use Rattle.node_core.proofs.own.step_abort.Goals as goal

pub returns-clause-step : goal.returns-clause-step
returns-clause-step g c =
    let e = c.abort.ensures in
    abort_step c.args.parts.now c.abort.new.parts c.args.out.now c.abort.new.out (seen_by (g.S.Storage.pages c.args.s.now) (g.S.Storage.logs c.args.s.now) (g.S.Storage.stops c.args.s.now) (g.S.Storage.failing c.args.s.now) (g.S.Storage.rooms c.args.s.now) (g.S.Storage.faults c.args.s.now)) (seen_by (g.S.Storage.pages c.abort.new.s) (g.S.Storage.logs c.abort.new.s) (g.S.Storage.stops c.abort.new.s) (g.S.Storage.failing c.abort.new.s) (g.S.Storage.rooms c.abort.new.s) (g.S.Storage.faults c.abort.new.s)) c.abort.result c.requires.parts c.requires.replies c.requires.sends
    c.args.tx c.requires.none e.comes e.node e.lists e.same e.fault
    (λ i. record { pages = e.pages i; logs = e.logs i; stops = e.stops i })
    (sizes_same _ _ _ _ _ _ _ e.pages e.logs e.rooms c.requires.sizes) e.calm e.quiet (e.counts, e.cause)
