use Rattle.std.proofs.Common.{◌≡◌}
use Rattle.lru.specs.LruCache.{lru_cache}
use Rattle.buffer_pool.specs.Entries.{fresh}
use Rattle.buffer_pool.proofs.order.all_free.Given as goal

abbrev pub invariant-loop-frame : goal.invariant-loop-frame
invariant-loop-frame l = l.order ≡ lru_cache (fresh l.frame) l.frames
