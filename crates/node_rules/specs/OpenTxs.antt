-- The open transactions of a node: what each holds, and the access for which it waits.
use Rattle.std.specs.Prelude.{ℕ, ◌+◌, ◌==◌, ◌&&◌, not, Bool, false, List, [], ◌∷◌, ◌++◌, Option, Some, None, is_some}
use Rattle.std.specs.List.{filter}
use Rattle.pcl_base.specs.declared.tx.TxId.{TxId}
use Rattle.pcl_base.specs.declared.tx.Mode.{Mode}
use Rattle.pcl_base.specs.declared.lock.Held.{Held}
use Rattle.pcl_base.specs.declared.lock.Kind.{Kind}
use Rattle.pcl_base.specs.declared.lock.Pending.{Pending}
use Rattle.node_rules.specs.Words.{pick, same_mode}

-- an open transaction: its pages in the order of first access, and the access that waits
pub record OpenTx : Type 0 where
  pub serial : ℕ
  pub pages : List Held
  pub waiting : Option Pending

-- the node, the epoch of its birth, the last serial that was given, and the open transactions by serial
pub record OpenTxs : Type 0 where
  pub node : ℕ
  pub born : ℕ
  pub last : ℕ
  pub txs : List OpenTx

-- the name of the transaction with a serial
abbrev pub name_of : OpenTxs → ℕ → TxId
name_of s serial = record { node = s.node; born = s.born; serial = serial }

-- whether a transaction's name is one of this node and birth
abbrev pub is_own : OpenTxs → TxId → Bool
is_own s t = t.node == s.node && t.born == s.born

-- the next serial becomes a transaction that holds nothing
unfoldable pub begin : OpenTxs → OpenTxs
begin s =
    record s {
      last = s.last + 1;
      txs = s.txs ++ record { serial = s.last + 1; pages = []; waiting = None } ∷ [];
    }

-- the open transaction of a serial, and of a name
unfoldable pub with_serial : List OpenTx → ℕ → Option OpenTx
with_serial [] serial = None
with_serial (x ∷ xs) serial = pick (x.serial == serial) (Some x) (with_serial xs serial)

-- the open transaction of a name
abbrev pub open_at : OpenTxs → TxId → Option OpenTx
open_at s t = pick (is_own s t) (with_serial s.txs t.serial) None

-- whether a transaction is open
abbrev pub is_open : OpenTxs → TxId → Bool
is_open s t = is_some (open_at s t)

-- what an open transaction has, and nothing where there is none
abbrev pub pages_of_open : Option OpenTx → List Held
pages_of_open None = []
pages_of_open (Some x) = x.pages

-- the access for which an open transaction waits
abbrev pub waiting_of_open : Option OpenTx → Option Pending
waiting_of_open None = None
waiting_of_open (Some x) = x.waiting

-- the pages that a transaction holds
abbrev pub locks_of : OpenTxs → TxId → List Held
locks_of s t = pages_of_open (open_at s t)

-- the access for which a transaction waits
abbrev pub pending_of : OpenTxs → TxId → Option Pending
pending_of s t = waiting_of_open (open_at s t)

-- the lock on a page
unfoldable pub lock_on : List Held → ℕ → Option Held
lock_on [] p = None
lock_on (h ∷ hs) p = pick (h.page == p) (Some h) (lock_on hs p)

-- the lock of a transaction on a page
abbrev pub held_by : OpenTxs → TxId → ℕ → Option Held
held_by s t p = lock_on (locks_of s t) p

-- the mode of a lock that is there
abbrev pub mode_held : Option Held → Option Mode
mode_held None = None
mode_held (Some h) = Some h.mode

-- whether an access, if there is one, is of this page, and of this page and mode
abbrev pub waits_on : Option Pending → ℕ → Bool
waits_on None p = false
waits_on (Some w) p = w.page == p

-- whether an access is of this page and mode
abbrev pub waits_as : Option Pending → ℕ → Mode → Bool
waits_as None p m = false
waits_as (Some w) p m = w.page == p && same_mode w.mode m

-- a lock in the place of the one on its page, else last
unfoldable pub put_lock : List Held → Held → List Held
put_lock [] l = l ∷ []
put_lock (h ∷ hs) l = pick (h.page == l.page) (l ∷ hs) (h ∷ put_lock hs l)

-- the locks with another kind on a page
unfoldable pub kind_on : List Held → ℕ → Kind → List Held
kind_on [] p k = []
kind_on (h ∷ hs) p k = pick (h.page == p) (record h { kind = k }) h ∷ kind_on hs p k

-- the open transactions with a change of the one of a serial
unfoldable pub change_open : (OpenTx → OpenTx) → List OpenTx → ℕ → List OpenTx
change_open f [] serial = []
change_open f (x ∷ xs) serial = pick (x.serial == serial) (f x) x ∷ change_open f xs serial

-- a change of one transaction
abbrev pub change_tx : (OpenTx → OpenTx) → OpenTxs → TxId → OpenTxs
change_tx f s t = record s { txs = change_open f s.txs t.serial }

-- a transaction gets a lock, which ends its waiting access of that page
abbrev pub with_lock : Held → OpenTx → OpenTx
with_lock l x =
    record x { pages = put_lock x.pages l; waiting = pick (waits_on x.waiting l.page) None x.waiting }

-- a transaction gets a lock
unfoldable pub add : OpenTxs → TxId → Held → OpenTxs
add s t l = change_tx (with_lock l) s t

-- a transaction waits for an access
unfoldable pub wait : OpenTxs → TxId → Pending → OpenTxs
wait s t w = change_tx (λ x. record x { waiting = Some w }) s t

-- a lock gets another kind
unfoldable pub set_kind : OpenTxs → TxId → ℕ → Kind → OpenTxs
set_kind s t p k = change_tx (λ x. record x { pages = kind_on x.pages p k }) s t

-- a transaction is open no more
unfoldable pub close_tx : OpenTxs → TxId → OpenTxs
close_tx s t = record s { txs = filter (λ x. not (x.serial == t.serial)) s.txs }

-- the pages at which a transaction's end is told: those that it holds in order, and last one for
-- which it waits without holding it
unfoldable pub end_pages : List Held → Option Pending → List ℕ
end_pages [] None = []
end_pages [] (Some w) = w.page ∷ []
end_pages (h ∷ hs) w = h.page ∷ end_pages hs (pick (waits_on w h.page) None w)
