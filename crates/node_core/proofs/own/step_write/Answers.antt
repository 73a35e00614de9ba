use Rattle.std.proofs.Common.{◌≡◌, None, List, ℕ, sym, subst, refl}
use Rattle.node_rules.specs.NodeState.{Write as writes}
use Rattle.node_rules.specs.Refusals.{refusal}
use Rattle.node_parts.specs.State.{node_of}
use Rattle.node_core.specs.Steps.{IsStep, seen_by}
use Rattle.node_core.proofs.OwnParts.{write_home, write_step_is, write_view}
use Rattle.node_core.proofs.Stepping.{step_wants}
use Rattle.node_core.proofs.own.step_write.Goals as goal

pub access-requires-clause-view : goal.access-requires-clause-view
access-requires-clause-view g c = write_view (node_of c.args.parts.now) c.args.tx c.args.page c.args.place c.args.bytes.now c.requires.none

pub access-requires-clause-none : goal.access-requires-clause-none
access-requires-clause-none g c =
    write_home (node_of c.args.parts.now) c.args.tx c.args.page c.args.place c.in-Ok.bytes
    (subst (λ (b : List ℕ). refusal (node_of c.args.parts.now) (writes c.args.tx c.args.page c.args.place b) ≡ None) (sym c.in-Ok.ensures) c.requires.none)

pub returns-in-Err-clause-step : goal.returns-in-Err-clause-step
returns-in-Err-clause-step g c =
    step_wants (node_of c.args.parts.now) (writes c.args.tx c.args.page c.args.place c.args.bytes.now) c.args.out.now (seen_by (g.S.Storage.pages c.args.s.now) (g.S.Storage.logs c.args.s.now) (g.S.Storage.stops c.args.s.now) (g.S.Storage.failing c.args.s.now) (g.S.Storage.rooms c.args.s.now) (g.S.Storage.faults c.args.s.now)) c.requires.sizes c.args.out.now
    (record { replies = refl; sends = refl })

pub returns-in-Ok-clause-step : goal.returns-in-Ok-clause-step
returns-in-Ok-clause-step g c =
    let e = c.access.ensures in
    let none : refusal (node_of c.args.parts.now) (writes c.args.tx c.args.page c.args.place c.in-Ok.bytes) ≡ None =
    subst (λ (b : List ℕ). refusal (node_of c.args.parts.now) (writes c.args.tx c.args.page c.args.place b) ≡ None) (sym c.in-Ok.ensures) c.requires.none in
    subst
    (λ (b : List ℕ).
    IsStep (node_of c.args.parts.now) (writes c.args.tx c.args.page c.args.place b) c.args.out.now (seen_by (g.S.Storage.pages c.args.s.now) (g.S.Storage.logs c.args.s.now) (g.S.Storage.stops c.args.s.now) (g.S.Storage.failing c.args.s.now) (g.S.Storage.rooms c.args.s.now) (g.S.Storage.faults c.args.s.now)) c.access.result (node_of c.access.new.parts) c.access.new.out (seen_by (g.S.Storage.pages c.access.new.s) (g.S.Storage.logs c.access.new.s) (g.S.Storage.stops c.access.new.s) (g.S.Storage.failing c.access.new.s) (g.S.Storage.rooms c.access.new.s) (g.S.Storage.faults c.access.new.s)))
    c.in-Ok.ensures
    (write_step_is c.args.parts.now c.access.new.parts c.args.out.now c.access.new.out (seen_by (g.S.Storage.pages c.args.s.now) (g.S.Storage.logs c.args.s.now) (g.S.Storage.stops c.args.s.now) (g.S.Storage.failing c.args.s.now) (g.S.Storage.rooms c.args.s.now) (g.S.Storage.faults c.args.s.now)) (seen_by (g.S.Storage.pages c.access.new.s) (g.S.Storage.logs c.access.new.s) (g.S.Storage.stops c.access.new.s) (g.S.Storage.failing c.access.new.s) (g.S.Storage.rooms c.access.new.s) (g.S.Storage.faults c.access.new.s)) c.access.result c.requires.parts c.requires.replies c.requires.sends
    c.args.tx c.args.page c.args.place c.in-Ok.bytes none e.comes e.made e.node e.lists e.same e.fault e.sizes e.calm e.quiet (e.counts, e.cause))
