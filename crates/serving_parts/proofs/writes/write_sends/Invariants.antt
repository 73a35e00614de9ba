use Rattle.std.proofs.Common.{◌≡◌, ◌++◌, ◌≤◌, ℕ, List, drop}
use Rattle.std.specs.Prelude.{flat_map}
use Rattle.std.specs.Io.KnownBytes.{Appends}
use Rattle.frame_rules.specs.WrittenFrames.{sent_frame}
use Rattle.serving_parts.proofs.writes.write_sends.Given as goal

-- the frames of the messages that were written, before those of the messages that are left
abbrev pub invariant-loop-sent : goal.invariant-loop-sent
invariant-loop-sent g l =
    record {
      later : g.O.Sink.faults l.fn.output ≤ g.O.Sink.faults l.output;
      text : List ℕ;
      so_far : Appends (g.O.Sink.written l.fn.output) (g.O.Sink.written l.output) text;
      rest : text ++ flat_map sent_frame (drop l.sent-index l.sends) ≡ flat_map sent_frame l.sends;
    }
