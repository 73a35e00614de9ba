-- The decisions of settling, one by one, each with the entry before it and the entry after it.
use Rattle.std.specs.Prelude.{◌≡◌, ◌≢◌, ◌⊎◌, ℕ, ◌==◌, ◌||◌, true, false, List, [], ◌∷◌, ◌++◌, map, Option, Some, None, ⊤}
use Rattle.std.specs.List.{Contains}
use Rattle.pcl_base.specs.declared.tx.TxId.{TxId}
use Rattle.pcl_base.specs.declared.tx.Mode.{Mode}
use Rattle.pcl_base.specs.declared.tx.Mode.TheVariants.{Shared, Exclusive}
use Rattle.pcl_base.specs.declared.lock.Waiter.{Waiter}
use Rattle.pcl_base.specs.declared.lock.Decision.{Decision}
use Rattle.pcl_base.specs.declared.lock.Decision.TheVariants.{Grant, Revoke}
use Rattle.node_rules.specs.Words.{pick, same_tx}
use Rattle.node_rules.specs.LockRule.{LockEntry, mode_of, has_right, waits_in, waiting_without, revocations, settle}

-- No transaction that holds the page exclusively waits for it. Such a one would have what it waits for; each
-- change of an entry keeps this.
abbrev pub NoWriterWaits : LockEntry → Type 0
NoWriterWaits e = (t : TxId) → mode_of e.holders t ≡ Some Exclusive → waits_in e.waiting t ≡ false

-- no transaction holds the page exclusively
abbrev pub HasNoWriter : LockEntry → Type 0
HasNoWriter e = (t : TxId) → mode_of e.holders t ≢ Some Exclusive

-- no other transaction holds the page, and no node has a right
pub record IsAlone (e : LockEntry) (t : TxId) : Type 0 where
  pub others : (u : TxId) → (mode_of e.holders u ≡ None) ⊎ (u ≡ t)
  pub rights : e.rights ≡ []

-- what a grant in this mode needs beside that no transaction writes
abbrev pub IsFreeFor : LockEntry → TxId → Mode → Type 0
IsFreeFor e t Shared = ⊤
IsFreeFor e t Exclusive = IsAlone e t

-- A grant without a right: its transaction waited with this mode and this copy, and is a holder in this mode
-- from then on.
pub record IsLocked (e : LockEntry) (t : TxId) (m : Mode) (have : Option ℕ) (later : LockEntry) : Type 0 where
  pub waited : Contains e.waiting (record { tx = t; mode = m; have = have })
  pub no_writer : HasNoWriter e
  pub free : IsFreeFor e t m
  pub version : later.version ≡ e.version
  pub holders : (u : TxId) → mode_of later.holders u ≡ pick (same_tx t u) (Some m) (mode_of e.holders u)
  pub rights : later.rights ≡ e.rights
  pub waiting : later.waiting ≡ waiting_without e.waiting t

-- A grant with a right: its transaction waited to read, and its node, which isn't the owner and had no right, has
-- one from then on. Nobody else waits to write.
pub record IsGiven (owner : ℕ) (e : LockEntry) (t : TxId) (have : Option ℕ) (later : LockEntry) : Type 0 where
  pub waited : Contains e.waiting (record { tx = t; mode = Shared; have = have })
  pub no_writer : HasNoWriter e
  pub away : t.node ≢ owner
  pub no_right : has_right e.rights t.node ≡ false
  pub readers : (w : Waiter) → Contains e.waiting w → w.mode ≡ Exclusive → w.tx ≡ t
  pub version : later.version ≡ e.version
  pub holders : later.holders ≡ e.holders
  pub rights : later.rights ≡ e.rights ++ record { node = t.node; revoked = false } ∷ []
  pub waiting : later.waiting ≡ waiting_without e.waiting t

-- A revocation: the first right that isn't revoked is this node's, and is marked from then on. The rights are of
-- the same nodes as before.
pub record IsMarked (e : LockEntry) (n : ℕ) (later : LockEntry) : Type 0 where
  pub there : has_right e.rights n ≡ true
  pub first : revocations e.rights ≡ Revoke n ∷ revocations later.rights
  pub version : later.version ≡ e.version
  pub holders : later.holders ≡ e.holders
  pub rights : map (λ r. r.node) later.rights ≡ map (λ r. r.node) e.rights
  pub waiting : later.waiting ≡ e.waiting

-- Decisions of an owner, from an entry to the one after them, one constructor a decision.
pub data Settles (owner : ℕ) : LockEntry → List Decision → LockEntry → Type 0 where
  rests : (e : LockEntry) → Settles owner e [] e
  locks : (e middle after : LockEntry) (t : TxId) (m : Mode) (have : Option ℕ) (ds : List Decision) → IsLocked e t m have middle → Settles owner middle ds after
      → Settles owner e (Grant t m false have ∷ ds) after
  gives : (e middle after : LockEntry) (t : TxId) (have : Option ℕ) (ds : List Decision) → IsGiven owner e t have middle → Settles owner middle ds after
      → Settles owner e (Grant t Shared true have ∷ ds) after
  revokes : (e middle after : LockEntry) (n : ℕ) (ds : List Decision) → IsMarked e n middle → Settles owner middle ds after
      → Settles owner e (Revoke n ∷ ds) after

-- settling an entry in which no writer waits is making its decisions, one after the other
abbrev pub SettlingDecides : Type 0
SettlingDecides = (owner : ℕ) (e : LockEntry) → NoWriterWaits e → Settles owner e (settle owner e).decisions (settle owner e).entry

-- settling leaves the entry's version
abbrev pub SettlingKeepsItsVersion : Type 0
SettlingKeepsItsVersion = (owner : ℕ) (e : LockEntry) → (settle owner e).entry.version ≡ e.version

-- a grant to a transaction adds just this transaction to the holders
abbrev pub LockedIsSeen : Type 0
LockedIsSeen =
    (e later : LockEntry) (t : TxId) (m : Mode) (have : Option ℕ) → IsLocked e t m have later
    → (mode_of later.holders t ≡ Some m) × ((n : ℕ) → has_right later.rights n ≡ has_right e.rights n) × (waits_in later.waiting t ≡ false)

-- a grant with a right adds just the transaction's node to the rights
abbrev pub GivenIsSeen : Type 0
GivenIsSeen =
    (owner : ℕ) (e later : LockEntry) (t : TxId) (have : Option ℕ) → IsGiven owner e t have later
    → ((u : TxId) → mode_of later.holders u ≡ mode_of e.holders u) × ((n : ℕ) → has_right later.rights n ≡ (t.node == n) || has_right e.rights n)
    × (waits_in later.waiting t ≡ false)

-- a revocation changes marks alone
abbrev pub MarkedIsSeen : Type 0
MarkedIsSeen =
    (e later : LockEntry) (n : ℕ) → IsMarked e n later
    → ((u : TxId) → mode_of later.holders u ≡ mode_of e.holders u) × ((m : ℕ) → has_right later.rights m ≡ has_right e.rights m)
    × ((u : TxId) → waits_in later.waiting u ≡ waits_in e.waiting u)
