-- What the ledger of a trace has of each node's transactions: requests that aren't answered, registered locks, writes that wait
-- and that were granted, and releases that were sent.
use Rattle.std.specs.Prelude.{◌≡◌, ◌==◌, ◌&&◌, ◌||◌, ℕ, ◌≤◌, nat_lt, Bool, true, false, Option, Some, None, IfSome, length}
use Rattle.std.specs.List.{list_any, filter}
use Rattle.pcl_base.specs.Limits.{Sizes}
use Rattle.pcl_base.specs.declared.lock.Kind.{Kind}
use Rattle.pcl_base.specs.declared.lock.Kind.TheVariants as kind
use Rattle.pcl_base.specs.declared.tx.TxId.{TxId}
use Rattle.run_rules.specs.Ledger.{Ledger, first_ledger, is_of, is_want}
use Rattle.run_rules.specs.Views.{View}
use Rattle.node_rules.specs.NodeState.{NodeState, number_of, page_owner}
use Rattle.node_rules.specs.OpenTxs.{is_open, held_by, pending_of}
use Rattle.node_rules.specs.Words.{is_exclusive}
use Rattle.home_laws.specs.Homes.{is_exclusive_lock}
use Rattle.cluster_rules.specs.Clusters.{Cluster, opening, node_at, last_view}

-- whether a lock is registered at the owner of its page
abbrev pub is_registered : Kind → Bool
is_registered kind.Registered = true
is_registered _ = false

-- the open transactions of a node
pub record HasHome (l : Ledger) (s : NodeState) : Type 0 where
  -- a registered lock is one of the account
  pub registered : (t : TxId) (p : ℕ) → IfSome (held_by s.home.txs t p) (λ h. is_registered h.kind ≡ true → list_any (is_of t p) l.registered ≡ true)
  -- an access that waits for a page of another node was asked for, and isn't answered
  pub asked : (t : TxId) → IfSome (pending_of s.home.txs t) (λ w. (page_owner s w.page == number_of s) ≡ false → list_any (is_want t w.page w.mode) l.asked ≡ true)
  -- a write that waits is noted
  pub writing : (t : TxId) → IfSome (pending_of s.home.txs t) (λ w. is_exclusive w.mode ≡ true → list_any (is_of t w.page) l.writing ≡ true)
  -- granted writes are those of pages that are held exclusively
  pub done : (t : TxId) (p : ℕ) → is_open s.home.txs t ≡ true → list_any (is_of t p) l.done ≡ is_exclusive_lock (held_by s.home.txs t p)
  -- no page of it was released
  pub released : (t : TxId) (p : ℕ) → is_open s.home.txs t ≡ true → list_any (is_of t p) l.released ≡ false

-- whether a transaction is still to be begun at its node. The life of a node in no view begins with a later epoch.
abbrev pub is_to_come_at : Option View → NodeState → TxId → Bool
is_to_come_at None s t = nat_lt s.epoch t.born
is_to_come_at (Some v) s t = nat_lt s.home.txs.born t.born || (t.born == s.home.txs.born && nat_lt s.home.txs.last t.serial)

-- the same of a node that may be down; `last` is the last epoch
abbrev pub is_to_come : ℕ → Option NodeState → TxId → Bool
is_to_come last None t = nat_lt last t.born
is_to_come last (Some s) t = is_to_come_at s.view s t

-- each transaction of the account was begun
pub record WereBegun (c : Cluster) (l : Ledger) : Type 0 where
  pub done : (t : TxId) (p : ℕ) → list_any (is_of t p) l.done ≡ true → is_to_come (last_view c).epoch (node_at c t.node) t ≡ false
  pub released : (t : TxId) (p : ℕ) → list_any (is_of t p) l.released ≡ true → is_to_come (last_view c).epoch (node_at c t.node) t ≡ false

-- the transactions of all nodes; no granted write is noted twice
pub record HaveHomes (c : Cluster) (l : Ledger) : Type 0 where
  pub nodes : (n : ℕ) → IfSome (node_at c n) (HasHome l)
  pub begun : WereBegun c l
  pub once : (t : TxId) (p : ℕ) → length (filter (is_of t p) l.done) ≤ 1

-- the opening cluster
abbrev pub OpeningHasHomes : Type 0
OpeningHasHomes = (c : Sizes) → HaveHomes (opening c) (first_ledger c)
