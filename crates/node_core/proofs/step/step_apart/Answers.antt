use Rattle.std.proofs.Common.{Result, refl, subst}
use Rattle.node_parts.specs.Events.{event_of}
use Rattle.node_parts.specs.State.{node_of}
use Rattle.node_parts.specs.declared.fault.StepFault.{StepFault}
use Rattle.node_core.specs.Steps.{IsStep, seen_by}
use Rattle.node_core.proofs.Behind.{step_behind, step_put}
use Rattle.node_core.proofs.step.step_apart.Goals as goal

pub returns-in-Err-clause-step : goal.returns-in-Err-clause-step
returns-in-Err-clause-step g c =
    step_behind (node_of c.args.parts.now) (node_of c.step_fresh.new.parts) (event_of c.args.event.now) c.args.out.now c.step_fresh.new.out c.open-own.result c.args.out.now (seen_by (g.S.Storage.pages c.args.s.now) (g.S.Storage.logs c.args.s.now) (g.S.Storage.stops c.args.s.now) (g.S.Storage.failing c.args.s.now) (g.S.Storage.rooms c.args.s.now) (g.S.Storage.faults c.args.s.now)) (seen_by (g.S.Storage.pages c.step_fresh.new.s) (g.S.Storage.logs c.step_fresh.new.s) (g.S.Storage.stops c.step_fresh.new.s) (g.S.Storage.failing c.step_fresh.new.s) (g.S.Storage.rooms c.step_fresh.new.s) (g.S.Storage.faults c.step_fresh.new.s)) _
    c.open-own.ensures.replies c.open-own.ensures.sends tt (record { replies = refl; sends = refl })
    (subst (λ (r : Result (Unit {0}) StepFault). IsStep (node_of c.args.parts.now) (event_of c.args.event.now) c.open-own.result (seen_by (g.S.Storage.pages c.args.s.now) (g.S.Storage.logs c.args.s.now) (g.S.Storage.stops c.args.s.now) (g.S.Storage.failing c.args.s.now) (g.S.Storage.rooms c.args.s.now) (g.S.Storage.faults c.args.s.now)) r (node_of c.step_fresh.new.parts) c.step_fresh.new.out (seen_by (g.S.Storage.pages c.step_fresh.new.s) (g.S.Storage.logs c.step_fresh.new.s) (g.S.Storage.stops c.step_fresh.new.s) (g.S.Storage.failing c.step_fresh.new.s) (g.S.Storage.rooms c.step_fresh.new.s) (g.S.Storage.faults c.step_fresh.new.s))) c.in-Err.is c.step_fresh.ensures.step)

pub returns-in-Ok-clause-step : goal.returns-in-Ok-clause-step
returns-in-Ok-clause-step g c =
    let e = c.put_behind.ensures in
    step_put (node_of c.args.parts.now) (node_of c.step_fresh.new.parts) (event_of c.args.event.now) c.step_fresh.new.out c.open-own.result (seen_by (g.S.Storage.pages c.args.s.now) (g.S.Storage.logs c.args.s.now) (g.S.Storage.stops c.args.s.now) (g.S.Storage.failing c.args.s.now) (g.S.Storage.rooms c.args.s.now) (g.S.Storage.faults c.args.s.now)) (seen_by (g.S.Storage.pages c.step_fresh.new.s) (g.S.Storage.logs c.step_fresh.new.s) (g.S.Storage.stops c.step_fresh.new.s) (g.S.Storage.failing c.step_fresh.new.s) (g.S.Storage.rooms c.step_fresh.new.s) (g.S.Storage.faults c.step_fresh.new.s)) c.open-own.ensures.replies c.open-own.ensures.sends
    (subst (λ (r : Result (Unit {0}) StepFault). IsStep (node_of c.args.parts.now) (event_of c.args.event.now) c.open-own.result (seen_by (g.S.Storage.pages c.args.s.now) (g.S.Storage.logs c.args.s.now) (g.S.Storage.stops c.args.s.now) (g.S.Storage.failing c.args.s.now) (g.S.Storage.rooms c.args.s.now) (g.S.Storage.faults c.args.s.now)) r (node_of c.step_fresh.new.parts) c.step_fresh.new.out (seen_by (g.S.Storage.pages c.step_fresh.new.s) (g.S.Storage.logs c.step_fresh.new.s) (g.S.Storage.stops c.step_fresh.new.s) (g.S.Storage.failing c.step_fresh.new.s) (g.S.Storage.rooms c.step_fresh.new.s) (g.S.Storage.faults c.step_fresh.new.s))) c.in-Ok.is c.step_fresh.ensures.step)
    c.args.bound c.requires.bound c.args.out.now c.put_behind.new.out c.put_behind.result e.ok e.fault e.more
