use Rattle.std.proofs.Common.{◌≡◌, ◌++◌, ◌-◌}
use Rattle.node_rules.specs.LockTable.{pages_of, pages_from}
use Rattle.install_plans.proofs.redo.partition_pages.Given as goal

abbrev pub invariant-loop : goal.invariant-loop
invariant-loop l = record {
  rest : l.pages.items ++ pages_from (l.end - l.counter) l.by.config.nodes l.page l.by.config.pages ≡ pages_of l.by.config l.q;
  all : l.end ≡ l.by.config.pages;
}
