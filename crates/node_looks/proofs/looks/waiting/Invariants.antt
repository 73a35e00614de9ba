use Rattle.std.proofs.Common.{◌≡◌, ◌++◌, ◌-◌}
use Rattle.run_rules.specs.Views.{count_from}
use Rattle.node_looks.specs.Looks.{waits_on}
use Rattle.node_parts.specs.State.{node_of}
use Rattle.node_looks.proofs.looks.waiting.Given as goal

abbrev pub invariant-loop-page : goal.invariant-loop-page
invariant-loop-page l =
    l.items.items ++ waits_on (node_of l.parts) (count_from l.page (l.pages - l.page)) ≡ waits_on (node_of l.parts) (count_from 0 l.pages)
