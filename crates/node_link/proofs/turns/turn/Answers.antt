use Rattle.std.proofs.Common.{sym, subst}
use Rattle.disk_model.specs.Disk.{HasSizes}
use Rattle.frame_rules.specs.ReadFrame.{bad_frame}
use Rattle.frame_rules.specs.WrittenFrames.{end_frame, bad_frame_text}
use Rattle.node_frames.specs.Seen.{reason_in}
use Rattle.serving_parts.specs.Sides.{store_of, outs_of, sides_of}
use Rattle.serving_parts.proofs.Turning.{next_turned, next_fits, next_none, next_bad, next_unread, next_wanting}
use Rattle.node_link.proofs.turns.turn.Goals as goal

pub step_on-requires-clause-frame : goal.step_on-requires-clause-frame
step_on-requires-clause-frame g c =
    next_fits c.args.config.now c.args.me 0 c.args.number c.args.node.now c.requires.config c.requires.number
    (sides_of (g.I.Source.left c.args.input.now) (g.I.Source.faults c.args.input.now) (outs_of (g.O.Sink.written c.args.output.now) (g.O.Sink.faults c.args.output.now) (store_of (g.S.Storage.pages c.args.storage.now) (g.S.Storage.logs c.args.storage.now) (g.S.Storage.stops c.args.storage.now) (g.S.Storage.failing c.args.storage.now) (g.S.Storage.faults c.args.storage.now))))
    (g.I.Source.left c.next_frame.new.input) (g.I.Source.faults c.next_frame.new.input) c.in-Ok-Some.field-0 c.in-Ok-Some.frame c.in-Ok-Some.ensures c.in-Ok-Some.field-0-is

pub step_on-requires-clause-sizes : goal.step_on-requires-clause-sizes
step_on-requires-clause-sizes g c = subst (λ k. HasSizes k (g.S.Storage.pages c.args.storage.now) (g.S.Storage.logs c.args.storage.now) (g.S.Storage.rooms c.args.storage.now)) (sym c.requires.config) c.requires.sizes

pub returns-in-Ok-Some-clause-turned : goal.returns-in-Ok-Some-clause-turned
returns-in-Ok-Some-clause-turned g c = λ most.
    next_turned c.args.config.now c.args.me most c.args.number c.args.node.now c.requires.config c.requires.number
    (sides_of (g.I.Source.left c.args.input.now) (g.I.Source.faults c.args.input.now) (outs_of (g.O.Sink.written c.args.output.now) (g.O.Sink.faults c.args.output.now) (store_of (g.S.Storage.pages c.args.storage.now) (g.S.Storage.logs c.args.storage.now) (g.S.Storage.stops c.args.storage.now) (g.S.Storage.failing c.args.storage.now) (g.S.Storage.faults c.args.storage.now))))
    (g.I.Source.left c.next_frame.new.input) (g.I.Source.faults c.next_frame.new.input)
    c.step_on.new.node
    (outs_of (g.O.Sink.written c.step_on.new.output) (g.O.Sink.faults c.step_on.new.output) (store_of (g.S.Storage.pages c.step_on.new.storage) (g.S.Storage.logs c.step_on.new.storage) (g.S.Storage.stops c.step_on.new.storage) (g.S.Storage.failing c.step_on.new.storage) (g.S.Storage.faults c.step_on.new.storage)))
    c.in-Ok-Some.field-0 c.in-Ok-Some.frame c.step_on.result c.in-Ok-Some.ensures c.in-Ok-Some.field-0-is c.step_on.ensures.gave

pub returns-in-Ok-Some-clause-sizes : goal.returns-in-Ok-Some-clause-sizes
returns-in-Ok-Some-clause-sizes g c = subst (λ k. HasSizes k (g.S.Storage.pages c.step_on.new.storage) (g.S.Storage.logs c.step_on.new.storage) (g.S.Storage.rooms c.step_on.new.storage)) c.requires.config c.step_on.ensures.sizes

pub returns-in-Ok-None-clause-turned : goal.returns-in-Ok-None-clause-turned
returns-in-Ok-None-clause-turned g c = λ most.
    next_none c.args.config.now c.args.me most c.args.number c.args.node.now c.requires.config c.requires.number
    (sides_of (g.I.Source.left c.args.input.now) (g.I.Source.faults c.args.input.now) (outs_of (g.O.Sink.written c.args.output.now) (g.O.Sink.faults c.args.output.now) (store_of (g.S.Storage.pages c.args.storage.now) (g.S.Storage.logs c.args.storage.now) (g.S.Storage.stops c.args.storage.now) (g.S.Storage.failing c.args.storage.now) (g.S.Storage.faults c.args.storage.now))))
    (g.I.Source.left c.next_frame.new.input) (g.I.Source.faults c.next_frame.new.input)
    c.in-Ok-None.field-0 c.in-Ok-None.ensures c.in-Ok-None.field-0-is

pub returns-in-Err-Bad-clause-turned : goal.returns-in-Err-Bad-clause-turned
returns-in-Err-Bad-clause-turned g c = λ most.
    next_bad c.args.config.now c.args.me most c.args.number c.args.node.now c.requires.config c.requires.number
    (sides_of (g.I.Source.left c.args.input.now) (g.I.Source.faults c.args.input.now) (outs_of (g.O.Sink.written c.args.output.now) (g.O.Sink.faults c.args.output.now) (store_of (g.S.Storage.pages c.args.storage.now) (g.S.Storage.logs c.args.storage.now) (g.S.Storage.stops c.args.storage.now) (g.S.Storage.failing c.args.storage.now) (g.S.Storage.faults c.args.storage.now))))
    (g.I.Source.left c.next_frame.new.input) (g.I.Source.faults c.next_frame.new.input)
    c.in-Err-Bad.field-0 c.in-Err-Bad.place c.in-Err-Bad.reason (g.O.Sink.written c.write_last.new.output) (g.O.Sink.faults c.write_last.new.output) c.write_last.result
    c.in-Err-Bad.ensures c.in-Err-Bad.field-0-is
    (c.write_last.ensures.wrote (end_frame (bad_frame_text c.args.number (bad_frame c.in-Err-Bad.place (reason_in c.in-Err-Bad.reason)))) c.encode_bad-made.ensures)

pub returns-in-Err-Source-clause-turned : goal.returns-in-Err-Source-clause-turned
returns-in-Err-Source-clause-turned g c = λ most.
    next_unread c.args.config.now c.args.me most c.args.number c.args.node.now c.requires.config c.requires.number
    (sides_of (g.I.Source.left c.args.input.now) (g.I.Source.faults c.args.input.now) (outs_of (g.O.Sink.written c.args.output.now) (g.O.Sink.faults c.args.output.now) (store_of (g.S.Storage.pages c.args.storage.now) (g.S.Storage.logs c.args.storage.now) (g.S.Storage.stops c.args.storage.now) (g.S.Storage.failing c.args.storage.now) (g.S.Storage.faults c.args.storage.now))))
    (g.I.Source.left c.next_frame.new.input) (g.I.Source.faults c.next_frame.new.input)
    c.in-Err-Source.field-0 c.in-Err-Source.ensures c.in-Err-Source.field-0-is

pub returns-in-Err-NoMemory-clause-turned : goal.returns-in-Err-NoMemory-clause-turned
returns-in-Err-NoMemory-clause-turned g c = λ most.
    next_wanting c.args.config.now c.args.me most c.args.number c.args.node.now c.requires.config c.requires.number
    (sides_of (g.I.Source.left c.args.input.now) (g.I.Source.faults c.args.input.now) (outs_of (g.O.Sink.written c.args.output.now) (g.O.Sink.faults c.args.output.now) (store_of (g.S.Storage.pages c.args.storage.now) (g.S.Storage.logs c.args.storage.now) (g.S.Storage.stops c.args.storage.now) (g.S.Storage.failing c.args.storage.now) (g.S.Storage.faults c.args.storage.now))))
    (g.I.Source.left c.next_frame.new.input) (g.I.Source.faults c.next_frame.new.input)
    c.in-Err-NoMemory.field-0 c.in-Err-NoMemory.ensures
