use Rattle.node_parts.specs.Events.{event_of}
use Rattle.node_parts.specs.State.{node_of}
use Rattle.node_core.specs.Steps.{seen_by}
use Rattle.node_core.proofs.Behind.{step_from}
use Rattle.node_core.proofs.Stepping.{step_wants}
use Rattle.node_core.proofs.step.step_behind.Goals as goal

pub returns-in-Err-clause-step : goal.returns-in-Err-clause-step
returns-in-Err-clause-step g c =
    step_wants (node_of c.args.parts.now) (event_of c.args.event.now) c.args.out.now (seen_by (g.S.Storage.pages c.args.s.now) (g.S.Storage.logs c.args.s.now) (g.S.Storage.stops c.args.s.now) (g.S.Storage.failing c.args.s.now) (g.S.Storage.rooms c.args.s.now) (g.S.Storage.faults c.args.s.now)) c.requires.sizes c.reserve.new.self
    (record { replies = c.reserve.ensures.replies; sends = c.reserve.ensures.sends })

pub returns-in-Ok-clause-step : goal.returns-in-Ok-clause-step
returns-in-Ok-clause-step g c =
    step_from (node_of c.args.parts.now) (node_of c.step_apart.new.parts) (event_of c.args.event.now) c.args.out.now c.reserve.new.self c.step_apart.new.out (seen_by (g.S.Storage.pages c.args.s.now) (g.S.Storage.logs c.args.s.now) (g.S.Storage.stops c.args.s.now) (g.S.Storage.failing c.args.s.now) (g.S.Storage.rooms c.args.s.now) (g.S.Storage.faults c.args.s.now)) (seen_by (g.S.Storage.pages c.step_apart.new.s) (g.S.Storage.logs c.step_apart.new.s) (g.S.Storage.stops c.step_apart.new.s) (g.S.Storage.failing c.step_apart.new.s) (g.S.Storage.rooms c.step_apart.new.s) (g.S.Storage.faults c.step_apart.new.s)) c.step_apart.result
    (record { replies = c.reserve.ensures.replies; sends = c.reserve.ensures.sends }) c.step_apart.ensures.step
