use Rattle.std.proofs.Common.{◌+◌, ℕ, List, sym, subst, arith}
use Rattle.node_rules.specs.OpenTxs.{OpenTx}
use Rattle.tx_table.specs.Counts.{IsCounted}
use Rattle.tx_table.proofs.Serials.{absent_above}
use Rattle.tx_table.proofs.Changes.{counted_pushed}
use Rattle.tx_table.proofs.table.TxTable.open_next.Goals as goal

pub push-requires : goal.push-requires
push-requires c = absent_above 0 c.self.inside.last (c.self.inside.last + 1) c.self.inside.txs c.self.invariant.linked (omega arith)

pub invariant_of-self-2 : goal.invariant_of-self-2
invariant_of-self-2 c =
    subst (λ (l : List (ℕ × OpenTx)). IsCounted (c.self.inside.last + 1) l c.self.inside.locks c.self.inside.waits) (sym c.in_ok-push.ensures.ok)
    (counted_pushed c.self.inside.last c.self.inside.locks c.self.inside.waits c.new.result c.self.inside.txs c.self.invariant c.new.ensures)
