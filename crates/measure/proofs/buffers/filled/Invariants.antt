use Rattle.std.proofs.Common.{◌≡◌}
use Rattle.measure.proofs.buffers.filled.Given as goal

-- the pages have 64 bytes
abbrev pub invariant-loop-page : goal.invariant-loop-page
invariant-loop-page l = l.pool.size ≡ 64
