use Rattle.std.proofs.Common.{◌-◌, ◌≤◌, length, take}
use Rattle.std.specs.Io.KnownBytes.{Appends}
use Rattle.node_frames.proofs.sink.write_frame.Given as goal

-- so many bytes were appended
abbrev pub invariant-loop-done : goal.invariant-loop-done
invariant-loop-done g l =
    record {
      within : l.done ≤ length l.frame;
      later : g.O.Sink.faults l.fn.output ≤ g.O.Sink.faults l.output;
      so_far : Appends (g.O.Sink.written l.fn.output) (g.O.Sink.written l.output) (take l.done l.frame);
    }

abbrev pub decreases-loop-done : goal.decreases-loop-done
decreases-loop-done g l = length l.frame - l.done
