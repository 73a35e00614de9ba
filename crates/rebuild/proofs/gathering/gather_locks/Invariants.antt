use Rattle.std.proofs.Common.{◌≡◌, ◌||◌, ℕ, nat_eq, is_some, drop, take}
use Rattle.std.specs.List.{list_any}
use Rattle.node_rules.specs.Reports.{gather_locks}
use Rattle.lock_table.specs.Tables.{table_of, found, SamePlace}
use Rattle.rebuild.proofs.gathering.gather_locks.Given as goal

abbrev pub invariant-loop-lock : goal.invariant-loop-lock
invariant-loop-lock l = record {
  rest : gather_locks (table_of l.t) (drop l.lock-index l.locks) ≡ gather_locks (table_of l.fn.t) l.locks;
  made : (p : ℕ) → is_some (found l.t p) ≡ (list_any (λ x. nat_eq p x.page) (take l.lock-index l.locks) || is_some (found l.fn.t p));
  place : SamePlace l.fn.t l.t;
}
