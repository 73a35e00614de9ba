-- What an end needs, leaves and tells.
use Rattle.std.specs.Prelude.{ℕ, ◌==◌, ◌&&◌, not, is_some, Bool, true, false, List, [], ◌∷◌, Option, Some, None, Result, Ok, Err, ⊤}
use Rattle.std.specs.List.{filter, fold, list_any}
use Rattle.pcl_base.specs.declared.tx.TxId.{TxId}
use Rattle.pcl_base.specs.declared.lock.Held.{Held}
use Rattle.pcl_base.specs.declared.lock.Kind.TheVariants as kind
use Rattle.pcl_base.specs.declared.lock.Pending.{Pending}
use Rattle.node_rules.specs.Words.{pick, same_tx}
use Rattle.node_rules.specs.OpenTxs.{lock_on, waits_on, held_by, close_tx}
use Rattle.node_rules.specs.Shelf.{end_reader}
use Rattle.node_rules.specs.BufferRule.{Pool, discard}
use Rattle.node_rules.specs.NodeState.{HomeState}
use Rattle.node_rules.specs.AccessRule.{bytes_read}
use Rattle.node_rules.specs.EndRule.{Ending, registered_if, unpin_all}
use Rattle.home.specs.declared.fault.HomeFault.{HomeFault}
use Rattle.home.specs.declared.fault.HomeFault.TheVariants as fault

-- the private copy of a write that waits for a page without a lock is given up
abbrev pub discard_last : Pool → TxId → List Held → Option Pending → Pool
discard_last b t hs None = b
discard_last b t hs (Some w) = pick (is_some w.write && not (is_some (lock_on hs w.page))) (discard b t w.page) b

-- whether a page is in a list
abbrev pub listed : List ℕ → ℕ → Bool
listed ps p = list_any (λ q. q == p) ps

-- the home without a transaction that has no private copy and ends at these pages
abbrev pub left : HomeState → TxId → List ℕ → HomeState
left h t ps =
    record {
      config = h.config;
      txs = close_tx h.txs t;
      shelf = fold (λ rs p. end_reader rs p t) h.shelf ps;
      pool = unpin_all h.pool ps;
      written = filter (λ w. not (same_tx w.tx t)) h.written;
    }

-- what is told of a page that is held and isn't changed
abbrev pub lock_end : Option Pending → Held → Ending
lock_end w h = record { page = h.page; kind = registered_if (waits_on w h.page) h.kind; change = None }

-- what is told of the page that is waited for, where it isn't held
abbrev pub waited_end : List Held → Option Pending → List Ending
waited_end hs None = []
waited_end hs (Some w) =
    pick (is_some (lock_on hs w.page)) [] (record { page = w.page; kind = kind.Registered; change = None } ∷ [])

-- an abort ends early for a reason or for want of memory alone
abbrev pub IsAbortFault : {X : Type 0} → Result X HomeFault → Type 0
IsAbortFault (Ok x) = ⊤
IsAbortFault (Err (fault.Refused r)) = ⊤
IsAbortFault (Err fault.NoMemory) = ⊤
IsAbortFault (Err _) = ⊥

-- the bytes that a transaction reads of a page that it holds
abbrev pub bytes_if : Bool → List ℕ → Option (List ℕ)
bytes_if true bytes = Some bytes
bytes_if false bytes = None

abbrev pub bytes_held : HomeState → TxId → ℕ → Option (List ℕ)
bytes_held h t p = bytes_if (is_some (held_by h.txs t p)) (bytes_read h.pool t p)
