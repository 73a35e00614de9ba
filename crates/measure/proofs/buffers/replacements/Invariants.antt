use Rattle.std.proofs.Common.{◌≡◌}
use Rattle.measure.proofs.buffers.replacements.Given as goal

-- the pages have 64 bytes
abbrev pub invariant-loop-round : goal.invariant-loop-round
invariant-loop-round l = l.pool.size ≡ 64
