-- What a table ends as, where one of its entries is lent.
use Rattle.std.specs.Prelude.{◌≡◌, ℕ, Result}
use Rattle.std.specs.Borrow.{Lends, LendsSoOk, MutBor, Fml}
use Rattle.node_rules.specs.LockRule.{LockEntry}
use Rattle.lock_entry.specs.contracts.entry.Entry.{the_row as entry_row}
use Rattle.lock_table.specs.contracts.table.Table.{the_row}
use Rattle.lock_table.specs.Tables.{TableView, with_made, with_entry}

-- once the loan ends, the page has the entry that was last written through it
abbrev pub LendsAt : MutBor TableView → ℕ → MutBor LockEntry → Fml
LendsAt t page r = Lends the_row entry_row t r (λ w. with_entry t.now page w)

-- the same after an entry was made, where there was none; without memory the table is as it was
abbrev pub LendsMade : {E : Type 0} → MutBor TableView → ℕ → Result (MutBor LockEntry) E → Fml
LendsMade t page r = LendsSoOk the_row entry_row t r (λ n w. n ≡ with_entry (with_made t.now page) page w) (λ n. n ≡ t.now)
