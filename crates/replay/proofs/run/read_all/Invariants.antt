use Rattle.std.proofs.Common.{◌≡◌, ◌<◌, [], length}
use Rattle.replay.specs.Wrote.{Reached}
use Rattle.replay.proofs.run.read_all.Given as goal

-- reading goes on behind all bytes that were read
abbrev pub invariant-loop : goal.invariant-loop
invariant-loop g l =
    record {
      empty : l.text ≡ [];
      none : l.held ≡ [];
      room : 0 < length l.piece;
      reached : Reached l.initial.reader (g.I.Source.left l.fn.input) (g.I.Source.left l.input) (g.O.Sink.written l.fn.output) (g.O.Sink.written l.output) (g.I.Source.faults l.fn.input) (g.I.Source.faults l.input) (g.O.Sink.faults l.fn.output) (g.O.Sink.faults l.output) l.reader;
    }
