use Rattle.replay.specs.declared.ends.Fault.TheVariants.{Source, Sink, Memory}
use Rattle.replay.proofs.Never.{by_rules, faulted}
use Rattle.replay.proofs.run.replay.Goals as goal

pub returns-in-Ok : goal.returns-in-Ok
returns-in-Ok g c =
    by_rules c.args.totals (g.I.Source.left c.args.input.now) (g.I.Source.left c.run.new.input) (g.O.Sink.written c.args.output.now) (g.O.Sink.written c.run.new.output)
    (g.I.Source.faults c.args.input.now) (g.I.Source.faults c.run.new.input) (g.O.Sink.faults c.args.output.now) (g.O.Sink.faults c.run.new.output) c.in-Ok.status c.in-Ok.ensures

pub returns-in-Err-Source : goal.returns-in-Err-Source
returns-in-Err-Source g c =
    faulted c.args.totals (g.I.Source.left c.args.input.now) (g.I.Source.left c.run.new.input) (g.O.Sink.written c.args.output.now) (g.O.Sink.written c.run.new.output)
    (g.I.Source.faults c.args.input.now) (g.I.Source.faults c.run.new.input) (g.O.Sink.faults c.args.output.now) (g.O.Sink.faults c.run.new.output) c.in-Err-Source.field-0 Source c.in-Err-Source.field-0-is c.in-Err-Source.ensures

pub returns-in-Err-Sink : goal.returns-in-Err-Sink
returns-in-Err-Sink g c =
    faulted c.args.totals (g.I.Source.left c.args.input.now) (g.I.Source.left c.run.new.input) (g.O.Sink.written c.args.output.now) (g.O.Sink.written c.run.new.output)
    (g.I.Source.faults c.args.input.now) (g.I.Source.faults c.run.new.input) (g.O.Sink.faults c.args.output.now) (g.O.Sink.faults c.run.new.output) c.in-Err-Sink.field-0 Sink c.in-Err-Sink.field-0-is c.in-Err-Sink.ensures

pub returns-in-Err-Memory : goal.returns-in-Err-Memory
returns-in-Err-Memory g c =
    faulted c.args.totals (g.I.Source.left c.args.input.now) (g.I.Source.left c.run.new.input) (g.O.Sink.written c.args.output.now) (g.O.Sink.written c.run.new.output)
    (g.I.Source.faults c.args.input.now) (g.I.Source.faults c.run.new.input) (g.O.Sink.faults c.args.output.now) (g.O.Sink.faults c.run.new.output) c.in-Err-Memory.field-0 Memory c.in-Err-Memory.field-0-is c.in-Err-Memory.ensures
