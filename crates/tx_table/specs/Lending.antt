-- What the open transactions end as, where one of them is lent.
use Rattle.std.specs.Prelude.{ℕ, List, nat_eq}
use Rattle.std.specs.Map.{set_value}
use Rattle.std.specs.Borrow.{Lends, MutBor, Fml}
use Rattle.node_rules.specs.OpenTxs.{OpenTx}
use Rattle.tx_table.specs.contracts.slots.Slots.{the_row}
use Rattle.tx_table.specs.contracts.«open».Open.{the_row as open_row}

-- once the loan ends, the serial has the transaction that was last written through it
abbrev pub LendsAt : MutBor (List (ℕ × OpenTx)) → ℕ → MutBor OpenTx → Fml
LendsAt t serial r = Lends the_row open_row t r (λ w. set_value (nat_eq serial) t.now w)
