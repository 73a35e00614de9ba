use Rattle.std.proofs.Common.{◌≡◌, ◌-◌, length}
use Rattle.std.specs.List.{list_any}
use Rattle.run_rules.specs.Views.{count_from}
use Rattle.node_rules.specs.Reports.{is_missing}
use Rattle.lock_table.specs.Tables.{table_of}
use Rattle.rebuild.proofs.gathering.missing.Given as goal

abbrev pub invariant-loop-node : goal.invariant-loop-node
invariant-loop-node l =
    list_any (is_missing (table_of l.t) l.v l.t.partition) (count_from l.node (l.node-end - l.node))
    ≡ list_any (is_missing (table_of l.t) l.v l.t.partition) (count_from 0 (length l.v.live))
