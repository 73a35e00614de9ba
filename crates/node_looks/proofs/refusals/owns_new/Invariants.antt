use Rattle.std.proofs.Common.{◌≡◌, ◌-◌, length}
use Rattle.std.specs.List.{list_all}
use Rattle.run_rules.specs.Views.{count_from}
use Rattle.node_rules.specs.Refusals.{owns_new}
use Rattle.node_looks.proofs.refusals.owns_new.Given as goal

abbrev pub invariant-loop-q : goal.invariant-loop-q
invariant-loop-q l =
    list_all (owns_new l.view l.me) (count_from l.q (l.nodes - l.q)) ≡ list_all (owns_new l.view l.me) (count_from 0 (length l.view.live))
