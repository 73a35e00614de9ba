use Rattle.std.proofs.Common.{◌≡◌, ℕ, drop, fold, is_some}
use Rattle.node_rules.specs.LockTable.{set_version}
use Rattle.lock_table.specs.Tables.{table_of, found, SamePlace}
use Rattle.lock_table.proofs.table.Table.set_versions.Given as goal

abbrev pub invariant-loop-page : goal.invariant-loop-page
invariant-loop-page l = record {
  rest : fold (λ t x. set_version t x.0 x.1) (table_of l.self) (drop l.page-index l.versions) ≡ fold (λ t x. set_version t x.0 x.1) (table_of l.fn.self) l.versions;
  made : (p : ℕ) → is_some (found l.self p) ≡ is_some (found l.fn.self p);
  place : SamePlace l.fn.self l.self;
}
