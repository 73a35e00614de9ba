use Rattle.std.proofs.Common.{◌≡◌, length}
use Rattle.node_parts.specs.Stock.{AreReady}
use Rattle.node_parts.proofs.stock.Stock.open.Given as goal

abbrev pub invariant-loop : goal.invariant-loop
invariant-loop l = record { ready : AreReady l.size l.lists.items; count : length l.lists.items ≡ l.counter }
