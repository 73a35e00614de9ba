-- How many frames may still be read.
use Rattle.std.proofs.Common.{◌≡◌, ℕ, zero, ◌-◌, ◌≤◌, arith}

pub minus_zero : (n : ℕ) → n - 0 ≡ n
minus_zero n = omega arith

pub all_done : (limit done : ℕ) → done ≤ limit → limit ≤ done → (limit - done ≡ zero) × (done ≡ limit)
all_done limit done most past = (omega (arith, most, past), omega (arith, most, past))
