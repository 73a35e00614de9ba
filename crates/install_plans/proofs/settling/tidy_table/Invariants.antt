use Rattle.std.proofs.Common.{◌≡◌, drop}
use Rattle.lock_table.specs.Tables.{table_of, SamePlace}
use Rattle.install_plans.proofs.Settled.{AreLeft}
use Rattle.install_plans.proofs.settling.tidy_table.Given as goal

abbrev pub invariant-loop-page : goal.invariant-loop-page
invariant-loop-page l = record {
  table : table_of l.t ≡ table_of l.fn.t;
  left : AreLeft l.t (drop l.page-index l.page-items);
  place : SamePlace l.fn.t l.t;
}
