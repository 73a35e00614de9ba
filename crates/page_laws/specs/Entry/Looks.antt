-- What each change of a lock entry makes of the looks at it.
use Rattle.std.specs.Prelude.{◌≡◌, ◌⊎◌, ◌↔◌, ℕ, ◌+◌, ◌==◌, ◌&&◌, ◌||◌, not, Bool, true, false, List, Option, Some, None}
use Rattle.std.specs.List.{Contains}
use Rattle.pcl_base.specs.declared.tx.TxId.{TxId}
use Rattle.pcl_base.specs.declared.tx.Mode.{Mode}
use Rattle.pcl_base.specs.declared.tx.Mode.TheVariants.{Exclusive}
use Rattle.pcl_base.specs.declared.lock.Waiter.{Waiter}
use Rattle.node_rules.specs.Words.{pick, same_tx, covers, among, flag_at, or_else}
use Rattle.node_rules.specs.LockRule.{LockEntry, mode_of, has_right, waits_in, ask, takes_change, end_tx, returned, reported, reported_right, purge, settle}
use Rattle.page_protocol.specs.Authority.{with_shared}
use Rattle.page_laws.specs.Entry.Decisions.{NoWriterWaits}

-- whoever waits waited before
abbrev pub AreFewer : List Waiter → List Waiter → Type 0
AreFewer later earlier = (w : Waiter) → Contains later w → Contains earlier w

-- an entry after a request: only who waits may have changed
pub record IsAsked (e : LockEntry) (w : Waiter) (later : LockEntry) : Type 0 where
  pub version : later.version ≡ e.version
  pub holders : later.holders ≡ e.holders
  pub rights : later.rights ≡ e.rights
  pub waits : (t : TxId) → waits_in later.waiting t ≡ waits_in e.waiting t || (same_tx w.tx t && not (covers (mode_of e.holders w.tx) w.mode))
  pub waiting : (x : Waiter) → Contains later.waiting x → Contains e.waiting x ⊎ (x ≡ w)

abbrev pub AskingIsSeen : Type 0
AskingIsSeen = (e : LockEntry) (w : Waiter) → IsAsked e w (ask e w)

-- an entry after the end of a transaction: it holds nothing and waits for nothing
pub record IsWithout (e : LockEntry) (t : TxId) (later : LockEntry) : Type 0 where
  pub holders : (u : TxId) → mode_of later.holders u ≡ pick (same_tx t u) None (mode_of e.holders u)
  pub rights : later.rights ≡ e.rights
  pub waits : (u : TxId) → waits_in later.waiting u ≡ not (same_tx t u) && waits_in e.waiting u
  pub waiting : AreFewer later.waiting e.waiting

-- a change is taken just where it is of an exclusive holder and of the next version
pub record IsNext (e : LockEntry) (t : TxId) (v : ℕ) : Type 0 where
  pub holds : mode_of e.holders t ≡ Some Exclusive
  pub next : v ≡ e.version + 1

-- the end of a transaction, with a change that is taken or not, and without one
pub record EndIsSeen (e : LockEntry) (t : TxId) : Type 0 where
  pub looks : (change : Option ℕ) → IsWithout e t (end_tx e t change)
  pub taken : (v : ℕ) → (takes_change e t (Some v) ≡ true) ↔ IsNext e t v
  pub version : (change : Option ℕ) → takes_change e t change ≡ true → (end_tx e t change).version ≡ e.version + 1
  pub kept : (change : Option ℕ) → takes_change e t change ≡ false → (end_tx e t change).version ≡ e.version

abbrev pub EndingIsSeen : Type 0
EndingIsSeen = (e : LockEntry) (t : TxId) → EndIsSeen e t

-- an entry to which a right came back: the node has none, and each reader that wasn't a holder is a shared one
pub record IsReturned (e : LockEntry) (n : ℕ) (readers : List TxId) (later : LockEntry) : Type 0 where
  pub version : later.version ≡ e.version
  pub holders : (t : TxId) → mode_of later.holders t ≡ pick (among readers t) (with_shared (mode_of e.holders t)) (mode_of e.holders t)
  pub rights : (m : ℕ) → has_right later.rights m ≡ not (n == m) && has_right e.rights m
  pub waiting : later.waiting ≡ e.waiting

-- nothing changes where the node has no right
abbrev pub ReturningIsSeen : Type 0
ReturningIsSeen =
    (e : LockEntry) (n : ℕ) (readers : List TxId)
    → (has_right e.rights n ≡ true → IsReturned e n readers (returned e n readers)) × (has_right e.rights n ≡ false → returned e n readers ≡ e)

-- an entry into which a report puts a lock: a transaction that held the page goes on as before
pub record IsReported (e : LockEntry) (t : TxId) (m : Mode) (later : LockEntry) : Type 0 where
  pub version : later.version ≡ e.version
  pub holders : (u : TxId) → mode_of later.holders u ≡ or_else (mode_of e.holders u) (pick (same_tx t u) (Some m) None)
  pub rights : later.rights ≡ e.rights
  pub waiting : later.waiting ≡ e.waiting

-- an entry into which a report puts a right
pub record HasRightToo (e : LockEntry) (n : ℕ) (later : LockEntry) : Type 0 where
  pub version : later.version ≡ e.version
  pub holders : later.holders ≡ e.holders
  pub rights : (m : ℕ) → has_right later.rights m ≡ has_right e.rights m || n == m
  pub waiting : later.waiting ≡ e.waiting

abbrev pub ReportingIsSeen : Type 0
ReportingIsSeen =
    (e : LockEntry) → ((t : TxId) (m : Mode) → IsReported e t m (reported e t m)) × ((n : ℕ) → HasRightToo e n (reported_right e n))

-- an entry of which only what live nodes have stays
pub record IsPurged (e : LockEntry) (live : List Bool) (later : LockEntry) : Type 0 where
  pub version : later.version ≡ e.version
  pub holders : (t : TxId) → mode_of later.holders t ≡ pick (flag_at live t.node) (mode_of e.holders t) None
  pub rights : (n : ℕ) → has_right later.rights n ≡ flag_at live n && has_right e.rights n
  pub waits : (t : TxId) → waits_in later.waiting t ≡ flag_at live t.node && waits_in e.waiting t
  pub waiting : AreFewer later.waiting e.waiting

abbrev pub PurgingIsSeen : Type 0
PurgingIsSeen = (e : LockEntry) (live : List Bool) → IsPurged e live (purge e live)

-- each change keeps an entry in which no writer waits; a lock that a report brings does where its transaction
-- doesn't wait, or the lock isn't exclusive
pub record WritersStay (e : LockEntry) : Type 0 where
  pub asked : (w : Waiter) → NoWriterWaits (ask e w)
  pub settled : (owner : ℕ) → NoWriterWaits (settle owner e).entry
  pub ended : (t : TxId) (change : Option ℕ) → NoWriterWaits (end_tx e t change)
  pub back : (n : ℕ) (readers : List TxId) → NoWriterWaits (returned e n readers)
  pub lock : (t : TxId) (m : Mode) → (m ≡ Exclusive → waits_in e.waiting t ≡ false) → NoWriterWaits (reported e t m)
  pub right : (n : ℕ) → NoWriterWaits (reported_right e n)
  pub purged : (live : List Bool) → NoWriterWaits (purge e live)

abbrev pub WritersWaitForNothing : Type 0
WritersWaitForNothing = (e : LockEntry) → NoWriterWaits e → WritersStay e
