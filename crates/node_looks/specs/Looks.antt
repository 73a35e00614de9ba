-- What a node has: its open transactions, who waits for pages of partitions that it serves, and what
-- its open transactions hold.
use Rattle.std.specs.Prelude.{ℕ, List, [], ◌∷◌, ◌++◌, map, Option, Some, None}
use Rattle.pcl_base.specs.declared.tx.TxId.{TxId}
use Rattle.pcl_base.specs.declared.lock.Held.{Held}
use Rattle.pcl_base.specs.declared.lock.Waiter.{Waiter}
use Rattle.run_rules.specs.Views.{count_from}
use Rattle.node_rules.specs.Words.{pick}
use Rattle.node_rules.specs.LockTable.{LockTable, entry_at}
use Rattle.node_rules.specs.OpenTxs.{OpenTx, OpenTxs, name_of}
use Rattle.node_rules.specs.NodeState.{NodeState, table_of}
use Rattle.node_looks.specs.declared.looks.WaitItem.{WaitItem}
use Rattle.node_looks.specs.declared.looks.HoldItem.{HoldItem}

-- the names of the open transactions, by serial
abbrev pub open_names : NodeState → List TxId
open_names n = map (λ x. name_of n.home.txs x.serial) n.home.txs.txs

-- what a transaction holds, in the order of first access
abbrev pub holds_in : TxId → List Held → List HoldItem
holds_in t hs = map (λ h. record { tx = t; page = h.page; mode = h.mode }) hs

-- what open transactions hold, one after another
unfoldable pub holds_of : OpenTxs → List OpenTx → List HoldItem
holds_of s [] = []
holds_of s (x ∷ xs) = holds_in (name_of s x.serial) x.pages ++ holds_of s xs

-- what the open transactions hold, by serial and then first access
abbrev pub holding : NodeState → List HoldItem
holding n = holds_of n.home.txs n.home.txs.txs

-- who waits for a page in the table of its partition, where that is served
abbrev pub waiters_in : Option LockTable → ℕ → List Waiter
waiters_in None p = []
waiters_in (Some t) p = pick t.serving (entry_at t p).waiting []

-- those that wait for a page, each with the page
abbrev pub waits_in : ℕ → List Waiter → List WaitItem
waits_in p ws = map (λ w. record { page = p; tx = w.tx; mode = w.mode }) ws

-- who waits for a page
abbrev pub waits_at : NodeState → ℕ → List WaitItem
waits_at n p = waits_in p (waiters_in (table_of n p) p)

-- who waits for these pages, one after another
unfoldable pub waits_on : NodeState → List ℕ → List WaitItem
waits_on n [] = []
waits_on n (p ∷ ps) = waits_at n p ++ waits_on n ps

-- who waits for a page of a partition that is served, pages rising, each in list order
abbrev pub waiting : NodeState → List WaitItem
waiting n = waits_on n (count_from 0 n.home.config.pages)
