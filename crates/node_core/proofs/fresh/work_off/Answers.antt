use Rattle.std.proofs.Common.{sym, subst}
use Rattle.node_parts.specs.Events.{event_of}
use Rattle.node_parts.specs.State.{node_of}
use Rattle.node_core.specs.Steps.{IsStep, seen_by}
use Rattle.node_core.proofs.fresh.work_off.Goals as goal

pub returns-in-Begin-clause-step : goal.returns-in-Begin-clause-step
returns-in-Begin-clause-step g c =
    subst (λ e. IsStep (node_of c.args.parts.now) (event_of e) c.args.out.now (seen_by (g.S.Storage.pages c.args.s.now) (g.S.Storage.logs c.args.s.now) (g.S.Storage.stops c.args.s.now) (g.S.Storage.failing c.args.s.now) (g.S.Storage.rooms c.args.s.now) (g.S.Storage.faults c.args.s.now)) c.step_begin.result (node_of c.step_begin.new.parts) c.step_begin.new.out (seen_by (g.S.Storage.pages c.args.s.now) (g.S.Storage.logs c.args.s.now) (g.S.Storage.stops c.args.s.now) (g.S.Storage.failing c.args.s.now) (g.S.Storage.rooms c.args.s.now) (g.S.Storage.faults c.args.s.now))) (sym c.in-Begin.is)
    (c.step_begin.ensures.step (seen_by (g.S.Storage.pages c.args.s.now) (g.S.Storage.logs c.args.s.now) (g.S.Storage.stops c.args.s.now) (g.S.Storage.failing c.args.s.now) (g.S.Storage.rooms c.args.s.now) (g.S.Storage.faults c.args.s.now)) c.requires.sizes)
