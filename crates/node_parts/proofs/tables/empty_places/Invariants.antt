use Rattle.std.proofs.Common.{◌≡◌, ◌++◌, ◌-◌, replicate, None}
use Rattle.node_parts.proofs.tables.empty_places.Given as goal

abbrev pub invariant-loop : goal.invariant-loop
invariant-loop l = l.places.items ++ replicate (l.nodes - l.counter) None ≡ replicate l.nodes None
