use Rattle.std.proofs.Common.{◌≡◌, ◌++◌, drop}
use Rattle.node_looks.proofs.Listed.{holds_by}
use Rattle.node_looks.proofs.looks.holding.Given as goal

abbrev pub invariant-loop-tx : goal.invariant-loop-tx
invariant-loop-tx l = l.items.items ++ holds_by l.parts.home.txs (drop l.tx-index l.names) ≡ holds_by l.parts.home.txs l.names
