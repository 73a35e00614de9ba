use Rattle.std.proofs.Common.{sym, ◌∙◌}
use Rattle.node_parts.specs.Events.{event_of}
use Rattle.node_parts.specs.State.{node_of}
use Rattle.node_core.specs.Steps.{seen_by}
use Rattle.node_core.proofs.Behind.{refused_any}
use Rattle.node_core.proofs.fresh.step_fresh.Goals as goal

pub returns-in-Some-clause-step : goal.returns-in-Some-clause-step
returns-in-Some-clause-step g c =
    let e = c.refuse.ensures in
    refused_any (node_of c.args.parts.now) (event_of c.args.event.now) c.args.out.now c.refuse.new.out (seen_by (g.S.Storage.pages c.args.s.now) (g.S.Storage.logs c.args.s.now) (g.S.Storage.stops c.args.s.now) (g.S.Storage.failing c.args.s.now) (g.S.Storage.rooms c.args.s.now) (g.S.Storage.faults c.args.s.now)) c.in-Some.reason c.refuse.result
    (sym c.refusal.ensures ∙ c.in-Some.is) c.requires.sizes e.replies e.sends e.err e.fault
