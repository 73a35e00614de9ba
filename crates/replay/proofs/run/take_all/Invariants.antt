use Rattle.std.proofs.Common.{◌≡◌, ◌≤◌, [], take, None}
use Rattle.std.specs.Io.KnownBytes.{append_known}
use Rattle.replay.specs.Held.{Grew}
use Rattle.replay.specs.Wrote.{Went}
use Rattle.replay.proofs.run.take_all.Given as goal

-- the bytes so far were taken
abbrev pub invariant-loop-byte : goal.invariant-loop-byte
invariant-loop-byte g l =
    record {
      empty : l.text ≡ [];
      later : g.O.Sink.faults l.fn.output ≤ g.O.Sink.faults l.output;
      grew : Grew (g.O.Sink.written l.fn.output) (g.O.Sink.written l.output);
      went : Went l.initial.reader (take l.byte-index l.piece) (g.O.Sink.written l.fn.output) (append_known (g.O.Sink.written l.output) l.held) None l.reader;
    }
