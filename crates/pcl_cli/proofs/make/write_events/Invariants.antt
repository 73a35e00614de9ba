use Rattle.std.proofs.Common.{◌≤◌, ◌++◌, length}
use Rattle.pcl_cli.specs.MakeText.{lines_of, Passes}
use Rattle.pcl_cli.proofs.make.write_events.Given as goal

-- what was written, what is kept, and the lines that are still to come are the whole text
abbrev pub invariant-loop-text : goal.invariant-loop-text
invariant-loop-text g l =
    record {
      later : g.O.Sink.faults l.fn.output ≤ g.O.Sink.faults l.output;
      passes : Passes (g.O.Sink.written l.fn.output) (g.O.Sink.written l.output) (l.fn.text.items ++ lines_of l.fn.maker) (l.text.items ++ lines_of l.maker);
    }

abbrev pub decreases-loop-text : goal.decreases-loop-text
decreases-loop-text g l = length l.maker
