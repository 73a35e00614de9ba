-- What the changes of a lock table make of the entry of a page.
use Rattle.std.specs.Prelude.{◌≡◌, ◌⊎◌, ℕ, ◌==◌, ◌&&◌, ◌||◌, nat_lt, Bool, false, List, [], ◌∷◌, length, Option, Some, None}
use Rattle.std.specs.List.{list_any, Contains}
use Rattle.pcl_base.specs.Limits.{Sizes}
use Rattle.pcl_base.specs.declared.tx.TxId.{TxId}
use Rattle.pcl_base.specs.declared.tx.Mode.{Mode}
use Rattle.pcl_base.specs.declared.tx.Mode.TheVariants.{Exclusive}
use Rattle.pcl_base.specs.declared.lock.Waiter.{Waiter}
use Rattle.pcl_base.specs.declared.message.Report.{Report}
use Rattle.pcl_base.specs.declared.message.ReportLock.{ReportLock}
use Rattle.pcl_base.specs.declared.message.ReportRight.{ReportRight}
use Rattle.pcl_base.specs.declared.message.ReportWait.{ReportWait}
use Rattle.node_rules.specs.Words.{pick, same_tx, or_else}
use Rattle.node_rules.specs.LockRule.{LockEntry, idle, mode_of, has_right, waits_in, purge}
use Rattle.node_rules.specs.LockTable.{LockTable, open_table, entry_at, put_entry, set_version, mark, marked, serve}
use Rattle.node_rules.specs.Reports.{gather}
use Rattle.node_rules.specs.InstallRule.{purge_table}
use Rattle.page_laws.specs.Entry.Decisions.{NoWriterWaits}

-- the mode in which a report lists a lock of a transaction on a page
unfoldable pub mode_listed : List ReportLock → TxId → ℕ → Option Mode
mode_listed [] t p = None
mode_listed (x ∷ xs) t p = pick (same_tx x.tx t && x.page == p) (Some x.mode) (mode_listed xs t p)

-- whether a report lists a right on a page
abbrev pub lists_right : List ReportRight → ℕ → Bool
lists_right xs p = list_any (λ (x : ReportRight). x.page == p) xs

-- one that waits, as a report lists it
abbrev pub waiter_of : ReportWait → Waiter
waiter_of x = record { tx = x.tx; mode = x.mode; have = x.have }

-- one that waits for a page by a report
pub record IsListed (p : ℕ) (waits : List ReportWait) (w : Waiter) : Type 0 where
  pub item : ReportWait
  pub inside : Contains waits item
  pub page : item.page ≡ p
  pub same : w ≡ waiter_of item

-- a table in which nothing is locked
abbrev pub NewTablesAreIdle : Type 0
NewTablesAreIdle =
    (c : Sizes) (q p : ℕ) (serving : Bool) → (entry_at (open_table c q serving) p ≡ idle 0) × ((n : ℕ) → marked (open_table c q serving) n ≡ false)

-- the changes of a table and the looks at it
pub record TableIsSeen (t : LockTable) : Type 0 where
  pub put : (p : ℕ) (e : LockEntry) (r : ℕ) → entry_at (put_entry t p e) r ≡ pick (p == r) e (entry_at t r)
  pub version : (p v r : ℕ) → entry_at (set_version t p v) r ≡ pick (p == r) (record (entry_at t p) { version = v }) (entry_at t r)
  pub purged : (live : List Bool) (p : ℕ) → entry_at (purge_table live t) p ≡ purge (entry_at t p) live
  pub served : (p : ℕ) → entry_at (serve t) p ≡ entry_at t p
  pub marks : (n m : ℕ) → marked (mark t n) m ≡ marked t m || (n == m && nat_lt n (length t.reported))
  pub marking : (n p : ℕ) → entry_at (mark t n) p ≡ entry_at t p

abbrev pub TablesAreSeen : Type 0
TablesAreSeen = (t : LockTable) → TableIsSeen t

-- the entry of a page after a report of a node was put into its table
pub record IsGathered (p n : ℕ) (r : Report) (e later : LockEntry) : Type 0 where
  pub version : later.version ≡ e.version
  pub holders : (t : TxId) → mode_of later.holders t ≡ or_else (mode_of e.holders t) (mode_listed r.locks t p)
  pub rights : (m : ℕ) → has_right later.rights m ≡ has_right e.rights m || (n == m && lists_right r.rights p)
  pub waiting : (w : Waiter) → Contains later.waiting w → Contains e.waiting w ⊎ IsListed p r.waits w
  pub writers : ((t : TxId) → mode_listed r.locks t p ≡ Some Exclusive → waits_in e.waiting t ≡ false) → NoWriterWaits e → NoWriterWaits later

-- a report that is put into a table
pub record ReportIsSeen (t : LockTable) (n : ℕ) (r : Report) : Type 0 where
  pub entries : (p : ℕ) → IsGathered p n r (entry_at t p) (entry_at (gather t n r) p)
  pub marks : (m : ℕ) → marked (gather t n r) m ≡ marked t m || (n == m && nat_lt n (length t.reported))
  pub serving : (gather t n r).serving ≡ t.serving

abbrev pub GatheringIsSeen : Type 0
GatheringIsSeen = (t : LockTable) (n : ℕ) (r : Report) → ReportIsSeen t n r
