use Rattle.std.proofs.Common.{◌≡◌, ◌||◌, ℕ, nat_eq, is_some, drop, take}
use Rattle.std.specs.List.{list_any}
use Rattle.node_rules.specs.Reports.{gather_rights}
use Rattle.lock_table.specs.Tables.{table_of, found, SamePlace}
use Rattle.rebuild.proofs.gathering.gather_rights.Given as goal

abbrev pub invariant-loop-right : goal.invariant-loop-right
invariant-loop-right l = record {
  rest : gather_rights (table_of l.t) l.from (drop l.right-index l.rights) ≡ gather_rights (table_of l.fn.t) l.from l.rights;
  made : (p : ℕ) → is_some (found l.t p) ≡ (list_any (λ x. nat_eq p x.page) (take l.right-index l.rights) || is_some (found l.fn.t p));
  place : SamePlace l.fn.t l.t;
}
