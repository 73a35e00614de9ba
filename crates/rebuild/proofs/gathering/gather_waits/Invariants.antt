use Rattle.std.proofs.Common.{◌≡◌, ◌||◌, ℕ, nat_eq, is_some, drop, take}
use Rattle.std.specs.List.{list_any}
use Rattle.node_rules.specs.Reports.{gather_waits}
use Rattle.lock_table.specs.Tables.{table_of, found, SamePlace}
use Rattle.rebuild.proofs.gathering.gather_waits.Given as goal

abbrev pub invariant-loop-wait : goal.invariant-loop-wait
invariant-loop-wait l = record {
  rest : gather_waits (table_of l.t) (drop l.wait-index l.waits) ≡ gather_waits (table_of l.fn.t) l.waits;
  made : (p : ℕ) → is_some (found l.t p) ≡ (list_any (λ x. nat_eq p x.page) (take l.wait-index l.waits) || is_some (found l.fn.t p));
  place : SamePlace l.fn.t l.t;
}
