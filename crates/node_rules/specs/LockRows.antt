-- Transactions and lists for computed rows of the lock rule.
use Rattle.std.specs.Prelude.{ℕ, true, false, List, Some, None}
use Rattle.pcl_base.specs.declared.tx.TxId.{TxId}
use Rattle.pcl_base.specs.declared.tx.Mode.TheVariants.{Shared, Exclusive}
use Rattle.pcl_base.specs.declared.lock.Holder.{Holder}
use Rattle.pcl_base.specs.declared.lock.RightMark.{RightMark}
use Rattle.pcl_base.specs.declared.lock.Waiter.{Waiter}
use Rattle.node_rules.specs.LockRule.{LockEntry}

-- the first transactions of nodes 0, 1 and 2
abbrev pub a : TxId
a = record { node = 0; born = 1; serial = 1 }

-- the one of node 1
abbrev pub b : TxId
b = record { node = 1; born = 1; serial = 1 }

-- the one of node 2
abbrev pub c : TxId
c = record { node = 2; born = 1; serial = 1 }

-- one that reads, and one that writes
abbrev pub reads : TxId → Holder
reads t = record { tx = t; mode = Shared }

-- one that writes
abbrev pub writes : TxId → Holder
writes t = record { tx = t; mode = Exclusive }

-- one that waits to read, and one that waits to write
abbrev pub to_read : TxId → Waiter
to_read t = record { tx = t; mode = Shared; have = None }

-- one that waits to write, with a copy of version 4
abbrev pub to_write : TxId → Waiter
to_write t = record { tx = t; mode = Exclusive; have = Some 4 }

-- a node with a right, and one whose right is revoked
abbrev pub may : ℕ → RightMark
may n = record { node = n; revoked = false }

-- a node whose right is revoked
abbrev pub revoked : ℕ → RightMark
revoked n = record { node = n; revoked = true }

-- an entry at version 5
abbrev pub at_five : List Holder → List RightMark → List Waiter → LockEntry
at_five hs rs ws = record { version = 5; holders = hs; rights = rs; waiting = ws }
