-- A frame of a pool that is lent.
use Rattle.std.specs.Prelude.{ℕ, List}
use Rattle.std.specs.Borrow.{Lends, MutBor, Fml, u8, Array}
use Rattle.frame_pool.specs.Frames.{PoolView}
use Rattle.frame_pool.specs.Region.{lent}
use Rattle.frame_pool.specs.contracts.pool.Pool.{the_row}

-- p ends with what is last written to frame n behind r
abbrev pub LendsFrame : MutBor PoolView → ℕ → MutBor (List ℕ) → Fml
LendsFrame p n r = Lends the_row (Array u8 0) p r (lent p.now n)
