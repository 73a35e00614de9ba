use Rattle.std.proofs.Common.{◌≡◌, ◌≤◌, ◌-◌, length}
use Rattle.node_frames.specs.Front.{Taken}
use Rattle.node_frames.proofs.source.fill.Given as goal

-- so many bytes were put behind those that were there
abbrev pub invariant-loop-piece : goal.invariant-loop-piece
invariant-loop-piece g l =
    record {
      within : length l.bytes.items ≤ l.count;
      room : length l.piece ≡ 4096;
      so_far : Taken (g.I.Source.left l.fn.input) (g.I.Source.left l.input) (g.I.Source.faults l.fn.input) (g.I.Source.faults l.input) l.fn.bytes.items l.bytes.items;
    }

abbrev pub decreases-loop-piece : goal.decreases-loop-piece
decreases-loop-piece g l = l.count - length l.bytes.items
