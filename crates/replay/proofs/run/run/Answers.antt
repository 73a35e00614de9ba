use Rattle.std.proofs.Common.{ap, subst}
use Rattle.replay.specs.ReaderView.{ReaderView}
use Rattle.replay.specs.Outcome.{OutcomeOrDifference}
use Rattle.replay.specs.Wrote.{status_of}
use Rattle.replay.proofs.run.run.Goals as goal

pub returns-in-Ok : goal.returns-in-Ok
returns-in-Ok g c =
    let call = c.read_all-result in
    subst (λ t. OutcomeOrDifference t (g.I.Source.left c.args.input.now) (g.I.Source.left call.new.input) (g.O.Sink.written c.args.output.now) (g.O.Sink.written call.new.output) (g.I.Source.faults c.args.input.now) (g.I.Source.faults call.new.input) (g.O.Sink.faults c.args.output.now) (g.O.Sink.faults call.new.output) (status_of call.result))
    (ap (λ (v : ReaderView). v.totals) c.new-reader.ensures) call.ensures
