use Rattle.node_core.specs.Steps.{seen_by}
use Rattle.node_core.proofs.InstallParts.{install_step}
use Rattle.node_core.proofs.installing.step_install.Goals as goal

pub returns-clause-step : goal.returns-clause-step
returns-clause-step g c =
    let e = c.install.ensures in
    install_step c.args.parts.now c.install.new.parts c.args.out.now c.install.new.out (seen_by (g.S.Storage.pages c.args.s.now) (g.S.Storage.logs c.args.s.now) (g.S.Storage.stops c.args.s.now) (g.S.Storage.failing c.args.s.now) (g.S.Storage.rooms c.args.s.now) (g.S.Storage.faults c.args.s.now)) (seen_by (g.S.Storage.pages c.install.new.s) (g.S.Storage.logs c.install.new.s) (g.S.Storage.stops c.install.new.s) (g.S.Storage.failing c.install.new.s) (g.S.Storage.rooms c.install.new.s) (g.S.Storage.faults c.install.new.s)) c.install.result c.requires.parts c.requires.replies c.requires.sends
    c.args.view.now c.requires.none e.comes e.made e.node e.lists e.told e.unbegun e.same e.fault e.sizes e.calm e.quiet (e.counts, e.cause)
