use Rattle.pcl_base.specs.declared.fault.Failed.{Failed}
use Rattle.serving_parts.specs.Sides.{sides_of, outs_of}
use Rattle.frame_rules.specs.WrittenFrames.{end_frame, long_text}
use Rattle.serving_parts.proofs.Turning.{limit_unread, limit_none, limit_long, byte_read, none_read}
use Rattle.serving_parts.proofs.limit.end_at_limit.Goals as goal

pub returns-in-Err : goal.returns-in-Err
returns-in-Err g c = λ me n store.
    limit_unread me c.args.number n (sides_of (g.I.Source.left c.args.input.now) (g.I.Source.faults c.args.input.now) (outs_of (g.O.Sink.written c.args.output.now) (g.O.Sink.faults c.args.output.now) store))
    (g.I.Source.left c.has_more.new.input) (g.I.Source.faults c.has_more.new.input) c.in-Err.ensures.read c.in-Err.ensures.cause.failed

pub returns-in-Ok-true : goal.returns-in-Ok-true
returns-in-Ok-true g c = λ me n store.
    limit_long me c.args.number n (sides_of (g.I.Source.left c.args.input.now) (g.I.Source.faults c.args.input.now) (outs_of (g.O.Sink.written c.args.output.now) (g.O.Sink.faults c.args.output.now) store))
    (g.I.Source.left c.has_more.new.input) (g.I.Source.faults c.has_more.new.input) (g.O.Sink.written c.write_last.new.output) (g.O.Sink.faults c.write_last.new.output) c.write_last.result
    (byte_read Failed _ _ c.in-Ok-true.field-0 c.in-Ok-true.field-0-test c.in-Ok-true.ensures.read) (c.write_last.ensures.wrote (end_frame (long_text c.args.number)) c.encode_long-made.ensures)

pub returns-in-Ok-false : goal.returns-in-Ok-false
returns-in-Ok-false g c = λ me n store.
    let none = none_read Failed _ _ c.in-Ok-false.field-0 c.in-Ok-false.field-0-test c.in-Ok-false.ensures.read in
    limit_none me c.args.number n (sides_of (g.I.Source.left c.args.input.now) (g.I.Source.faults c.args.input.now) (outs_of (g.O.Sink.written c.args.output.now) (g.O.Sink.faults c.args.output.now) store))
    (g.I.Source.left c.has_more.new.input) (g.I.Source.faults c.has_more.new.input) none.0 none.1
