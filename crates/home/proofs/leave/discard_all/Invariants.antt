use Rattle.std.proofs.Common.{◌≡◌, ◌||◌, ℕ, None, take, drop}
use Rattle.std.specs.Option.{option_copied}
use Rattle.node_rules.specs.OpenTxs.{lock_on}
use Rattle.node_rules.specs.BufferRule.{has_private}
use Rattle.home_laws.specs.Homes.{is_exclusive_lock, is_write_of}
use Rattle.home.proofs.Discarded.{discards}
use Rattle.home.proofs.leave.discard_all.Given as goal

abbrev pub invariant-loop-lock : goal.invariant-loop-lock
invariant-loop-lock l = record {
  rest : discards l.tx l.pool (drop l.lock-index l.locks) ≡ discards l.tx l.initial.pool l.locks;
  private : (p : ℕ) → lock_on (take l.lock-index l.locks) p ≡ None → has_private l.pool l.tx p ≡ (is_exclusive_lock (lock_on l.locks p) || is_write_of (option_copied l.waiting) p);
}
