-- Reports: what a node has of a partition, and how the new owner puts reports together.
use Rattle.std.specs.Prelude.{ℕ, ◌==◌, ◌&&◌, not, nat_le, Bool, true, false, List, [], ◌∷◌, ◌++◌, map, length, Option, Some, None}
use Rattle.std.specs.List.{filter, list_any}
use Rattle.pcl_base.specs.Limits.{Sizes}
use Rattle.pcl_base.specs.declared.tx.TxId.{TxId}
use Rattle.pcl_base.specs.declared.lock.Held.{Held}
use Rattle.pcl_base.specs.declared.lock.Kind.{Kind}
use Rattle.pcl_base.specs.declared.lock.Kind.TheVariants as kind
use Rattle.pcl_base.specs.declared.lock.Pending.{Pending}
use Rattle.pcl_base.specs.declared.message.Report.{Report}
use Rattle.pcl_base.specs.declared.message.ReportLock.{ReportLock}
use Rattle.pcl_base.specs.declared.message.ReportRight.{ReportRight}
use Rattle.pcl_base.specs.declared.message.ReportWait.{ReportWait}
use Rattle.run_rules.specs.Views.{View, is_live, owner_of, since_of, born_of, count_from}
use Rattle.node_rules.specs.Words.{pick}
use Rattle.node_rules.specs.LockRule.{ask, reported, reported_right}
use Rattle.node_rules.specs.LockTable.{LockTable, entry_at, put_entry, mark, marked}
use Rattle.node_rules.specs.OpenTxs.{OpenTx, OpenTxs, name_of}
use Rattle.node_rules.specs.Shelf.{Right}
use Rattle.node_rules.specs.BufferRule.{Pool, find}
use Rattle.node_rules.specs.NodeState.{HomeState, partition}

-- the locks on pages of a partition, of registered ones alone or of all kinds
abbrev pub is_listed : Bool → Kind → Bool
is_listed true k = true
is_listed false kind.Registered = true
is_listed false _ = false

-- the same of one transaction's locks
unfoldable pub locks_in : Sizes → ℕ → Bool → TxId → List Held → List ReportLock
locks_in c q all t [] = []
locks_in c q all t (h ∷ hs) =
    pick (partition c h.page == q && is_listed all h.kind)
    (record { tx = t; page = h.page; mode = h.mode } ∷ locks_in c q all t hs) (locks_in c q all t hs)

-- the locks of all transactions, by serial
unfoldable pub all_locks : Sizes → ℕ → Bool → OpenTxs → List OpenTx → List ReportLock
all_locks c q all s [] = []
all_locks c q all s (x ∷ xs) = locks_in c q all (name_of s x.serial) x.pages ++ all_locks c q all s xs

-- the waiting accesses on pages of a partition, each with the version of the node's copy
abbrev pub wait_in : Sizes → ℕ → Pool → TxId → Option Pending → List ReportWait
wait_in c q b t None = []
wait_in c q b t (Some w) =
    pick (partition c w.page == q) (record { tx = t; page = w.page; mode = w.mode; have = find b w.page } ∷ []) []

-- the waiting accesses of all transactions, by serial
unfoldable pub all_waits : Sizes → ℕ → Pool → OpenTxs → List OpenTx → List ReportWait
all_waits c q b s [] = []
all_waits c q b s (x ∷ xs) = wait_in c q b (name_of s x.serial) x.waiting ++ all_waits c q b s xs

-- the rights on pages of a partition, in the order of acceptance
abbrev pub rights_in : Sizes → ℕ → List Right → List Right
rights_in c q rs = filter (λ r. partition c r.page == q) rs

-- the rights as a report lists them
abbrev pub all_rights : Sizes → ℕ → List Right → List ReportRight
all_rights c q rs = map (λ r. record { page = r.page; version = r.version }) (rights_in c q rs)

-- what a node has of a partition: for the new owner, and for its own new table
unfoldable pub report : ℕ → HomeState → Report
report q h =
    record {
      partition = q;
      waits = all_waits h.config q h.pool h.txs h.txs.txs;
      locks = all_locks h.config q false h.txs h.txs.txs;
      rights = all_rights h.config q h.shelf;
    }

-- what the node's own report lists: locks of all kinds
unfoldable pub own_report : ℕ → HomeState → Report
own_report q h =
    record {
      partition = q;
      waits = all_waits h.config q h.pool h.txs h.txs.txs;
      locks = all_locks h.config q true h.txs h.txs.txs;
      rights = [];
    }

-- a report goes last into the lists of the entries: locks, rights, waiting accesses
unfoldable pub gather_locks : LockTable → List ReportLock → LockTable
gather_locks t [] = t
gather_locks t (x ∷ xs) = gather_locks (put_entry t x.page (reported (entry_at t x.page) x.tx x.mode)) xs

-- the rights of a report
unfoldable pub gather_rights : LockTable → ℕ → List ReportRight → LockTable
gather_rights t n [] = t
gather_rights t n (x ∷ xs) = gather_rights (put_entry t x.page (reported_right (entry_at t x.page) n)) n xs

-- the waiting accesses of a report
unfoldable pub gather_waits : LockTable → List ReportWait → LockTable
gather_waits t [] = t
gather_waits t (x ∷ xs) =
    gather_waits
    (put_entry t x.page (ask (entry_at t x.page) (record { tx = x.tx; mode = x.mode; have = x.have }))) xs

-- a report of a node is put into a table
unfoldable pub gather : LockTable → ℕ → Report → LockTable
gather t n r = mark (gather_waits (gather_rights (gather_locks t r.locks) n r.rights) r.waits) n

-- whether a live node other than the owner, which was born before the partition got its owner,
-- hasn't reported
abbrev pub is_missing : LockTable → View → ℕ → ℕ → Bool
is_missing t v q n =
    is_live v.live n
    && (not (n == owner_of v q) && (not (marked t n) && nat_le (born_of v n) (since_of v q)))

-- whether a report is missing
unfoldable pub missing : LockTable → View → ℕ → Bool
missing t v q = list_any (is_missing t v q) (count_from 0 (length v.live))
