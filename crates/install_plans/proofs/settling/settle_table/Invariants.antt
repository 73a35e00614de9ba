use Rattle.std.proofs.Common.{◌≡◌, ◌++◌, true, drop}
use Rattle.install_laws.specs.InstallPlans.{plan_settling}
use Rattle.lock_table.specs.Tables.{table_of, SamePlace}
use Rattle.install_plans.proofs.Settled.{AreLeft}
use Rattle.install_plans.proofs.settling.settle_table.Given as goal

abbrev pub invariant-loop-page : goal.invariant-loop-page
invariant-loop-page l = record {
  table : (plan_settling l.by.me (drop l.page-index l.page-items) (table_of l.t)).table ≡ (plan_settling l.by.me l.page-items (table_of l.fn.t)).table;
  decisions : l.dues.items ++ (plan_settling l.by.me (drop l.page-index l.page-items) (table_of l.t)).decisions ≡ (plan_settling l.by.me l.page-items (table_of l.fn.t)).decisions;
  serving : l.t.serving ≡ true;
  left : AreLeft l.t (drop l.page-index l.page-items);
  place : SamePlace l.fn.t l.t;
}
