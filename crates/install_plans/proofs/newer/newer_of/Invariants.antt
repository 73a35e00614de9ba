use Rattle.std.proofs.Common.{◌≡◌, ℕ, nat_lt, ◌++◌, map, length, drop}
use Rattle.std.specs.List.{All, filter}
use Rattle.node_rules.specs.LockTable.{entry_at}
use Rattle.lock_table.specs.Tables.{IsPageOf, table_of}
use Rattle.install_plans.proofs.newer.newer_of.Given as goal

abbrev pub invariant-loop-place : goal.invariant-loop-place
invariant-loop-place l = record {
  rest : (f : ℕ → ℕ) → l.versions ≡ map f l.pages
      → l.newer.items ++ filter (λ p. nat_lt (entry_at (table_of l.t) p).version (f p)) (drop l.place l.pages) ≡ filter (λ p. nat_lt (entry_at (table_of l.t) p).version (f p)) l.pages;
  own : All (IsPageOf l.t) l.newer.items;
  end : l.place-end ≡ length l.pages;
}
