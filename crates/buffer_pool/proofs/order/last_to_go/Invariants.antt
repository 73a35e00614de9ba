use Rattle.std.proofs.Common.{◌≡◌, length}
use Rattle.buffer_pool.specs.Entries.{last_row, page_to_go}
use Rattle.buffer_pool.proofs.order.last_to_go.Given as goal

abbrev pub invariant-loop-frame : goal.invariant-loop-frame
invariant-loop-frame l = last_row (page_to_go l.keep) l.order.entries ≡ last_row (page_to_go l.keep) l.entries

abbrev pub decreases-loop-frame : goal.decreases-loop-frame
decreases-loop-frame l = length l.entries
