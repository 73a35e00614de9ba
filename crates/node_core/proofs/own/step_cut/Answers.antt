use Rattle.node_core.specs.Steps.{seen_by}
use Rattle.node_core.proofs.CopyParts.{cut_step}
use Rattle.node_core.proofs.own.step_cut.Goals as goal

pub returns : goal.returns
returns g c =
    let e = c.cut.ensures in
    record {
      step =
          cut_step c.args.parts.now c.args.out.now c.cut.new.out (seen_by (g.S.Storage.pages c.args.s.now) (g.S.Storage.logs c.args.s.now) (g.S.Storage.stops c.args.s.now) (g.S.Storage.failing c.args.s.now) (g.S.Storage.rooms c.args.s.now) (g.S.Storage.faults c.args.s.now)) (seen_by (g.S.Storage.pages c.cut.new.s) (g.S.Storage.logs c.cut.new.s) (g.S.Storage.stops c.cut.new.s) (g.S.Storage.failing c.cut.new.s) (g.S.Storage.rooms c.cut.new.s) (g.S.Storage.faults c.cut.new.s)) c.cut.result c.requires.parts c.requires.replies c.requires.sends
          c.requires.none e.comes e.made e.cuts.0 e.cuts.1 e.same e.fault e.sizes e.calm e.quiet (e.counts, e.cause);
    }
