use Rattle.std.proofs.Common.{sym}
use Rattle.node_parts.specs.Events.{event_of}
use Rattle.frame_rules.specs.Frames.{step_of}
use Rattle.frame_rules.specs.WrittenFrames.{step_frames}
use Rattle.node_frames.specs.Seen.{frame_in}
use Rattle.serving_parts.specs.Sides.{store_of}
use Rattle.node_link.proofs.Coming.{step_comes}
use Rattle.node_link.proofs.Working.{worked_asked, worked_some, worked_refused, refused_never_halts}
use Rattle.node_link.proofs.works.work.Goals as goal

pub step-requires-clause-come : goal.step-requires-clause-come
step-requires-clause-come g c =
    step_comes c.args.node.now c.args.me (event_of c.in-Some.event) (frame_in c.args.frame) c.requires.number c.requires.frame (sym c.in-Some.ensures)

pub returns-in-Some-clause-worked : goal.returns-in-Some-clause-worked
returns-in-Some-clause-worked g c = λ d tells.
    let n = c.args.node.now in
    let event = event_of c.in-Some.event in
    let out = c.args.out.now in
    let outs = c.step.new.out in
    let old = store_of (g.S.Storage.pages c.args.s.now) (g.S.Storage.logs c.args.s.now) (g.S.Storage.stops c.args.s.now) (g.S.Storage.failing c.args.s.now) (g.S.Storage.faults c.args.s.now) in
    let new = store_of (g.S.Storage.pages c.step.new.s) (g.S.Storage.logs c.step.new.s) (g.S.Storage.stops c.step.new.s) (g.S.Storage.failing c.step.new.s) (g.S.Storage.faults c.step.new.s) in
    worked_asked c.args.me n c.step.new.self d event (step_of c.args.me (frame_in c.args.frame)) (step_frames outs.replies outs.sends) old new c.step.result c.requires.number c.in-Some.ensures
    (worked_some n c.step.new.self d event out outs old new c.step.result tells c.requires.empty.0 c.requires.empty.1
    (c.step.ensures.came d tells.pages tells.logs)
    (λ stops l told calm. c.step.ensures.ran d stops l tells.pages tells.logs told calm)
    c.step.ensures.calm)

pub returns-in-None-clause-worked : goal.returns-in-None-clause-worked
returns-in-None-clause-worked g c = λ d tells.
    let s = store_of (g.S.Storage.pages c.args.s.now) (g.S.Storage.logs c.args.s.now) (g.S.Storage.stops c.args.s.now) (g.S.Storage.failing c.args.s.now) (g.S.Storage.faults c.args.s.now) in
    worked_refused c.args.me c.args.node.now d (step_of c.args.me (frame_in c.args.frame)) c.args.out.now c.refuse.new.out s c.refuse.result c.in-None.ensures tells c.requires.empty.0 c.requires.empty.1
    c.refuse.ensures.replies c.refuse.ensures.sends c.refuse.ensures.fault

pub returns-in-None-clause-cause : goal.returns-in-None-clause-cause
returns-in-None-clause-cause g c = λ k halted. refused_never_halts _ k c.refuse.result c.refuse.ensures.fault halted
