-- The lock rule: one page's lock entry, what changes its lists, and who is granted next.
use Rattle.std.specs.Prelude.{ℕ, zero, suc, ◌+◌, ◌==◌, ◌&&◌, ◌||◌, not, Bool, true, false, List, [], ◌∷◌, ◌++◌, map, length, Option, Some, None, is_some}
use Rattle.std.specs.List.{filter, list_any}
use Rattle.pcl_base.specs.declared.tx.TxId.{TxId}
use Rattle.pcl_base.specs.declared.tx.Mode.{Mode}
use Rattle.pcl_base.specs.declared.tx.Mode.TheVariants.{Shared, Exclusive}
use Rattle.pcl_base.specs.declared.lock.Holder.{Holder}
use Rattle.pcl_base.specs.declared.lock.RightMark.{RightMark}
use Rattle.pcl_base.specs.declared.lock.Waiter.{Waiter}
use Rattle.pcl_base.specs.declared.lock.Decision.{Decision}
use Rattle.pcl_base.specs.declared.lock.Decision.TheVariants.{Grant, Revoke}
use Rattle.node_rules.specs.Words.{pick, same_tx, is_exclusive, covers, flag_at, or_else, head_of}

-- a page's version, the transactions that hold it, the nodes that have the right to read it, and
-- the transactions that wait for it
pub record LockEntry : Type 0 where
  pub version : ℕ
  pub holders : List Holder
  pub rights : List RightMark
  pub waiting : List Waiter

-- an entry with empty lists
abbrev pub idle : ℕ → LockEntry
idle v = record { version = v; holders = []; rights = []; waiting = [] }

-- the mode in which a transaction holds the page
unfoldable pub mode_of : List Holder → TxId → Option Mode
mode_of [] t = None
mode_of (h ∷ hs) t = pick (same_tx h.tx t) (Some h.mode) (mode_of hs t)

-- whether a transaction waits, and whether a node has a right
abbrev pub waits_in : List Waiter → TxId → Bool
waits_in ws t = list_any (λ w. same_tx w.tx t) ws

-- whether a node has a right
abbrev pub has_right : List RightMark → ℕ → Bool
has_right rs n = list_any (λ r. r.node == n) rs

-- the lists without a transaction, and without a node
abbrev pub holders_without : List Holder → TxId → List Holder
holders_without hs t = filter (λ h. not (same_tx h.tx t)) hs

-- those that wait, without a transaction
abbrev pub waiting_without : List Waiter → TxId → List Waiter
waiting_without ws t = filter (λ w. not (same_tx w.tx t)) ws

-- the rights without a node
abbrev pub rights_without : List RightMark → ℕ → List RightMark
rights_without rs n = filter (λ r. not (r.node == n)) rs

-- a request is put last, unless the transaction waits already or holds what it asks for
unfoldable pub ask : LockEntry → Waiter → LockEntry
ask e w =
    pick (waits_in e.waiting w.tx || covers (mode_of e.holders w.tx) w.mode)
    e (record e { waiting = e.waiting ++ w ∷ [] })

-- whether a mode that is held is the exclusive one
abbrev pub holds_alone : Option Mode → Bool
holds_alone None = false
holds_alone (Some m) = is_exclusive m

-- a change is taken where its transaction holds the page exclusively and its version is the next
unfoldable pub takes_change : LockEntry → TxId → Option ℕ → Bool
takes_change e t None = false
takes_change e t (Some v) = holds_alone (mode_of e.holders t) && v == e.version + 1

-- the end of a transaction: its change, if that is taken, makes the next version, and it leaves the
-- holders and those that wait
unfoldable pub end_tx : LockEntry → TxId → Option ℕ → LockEntry
end_tx e t change =
    record {
      version = pick (takes_change e t change) (e.version + 1) e.version;
      holders = holders_without e.holders t;
      rights = e.rights;
      waiting = waiting_without e.waiting t;
    }

-- transactions that aren't holders become shared ones, in order
unfoldable pub register : List Holder → List TxId → List Holder
register hs [] = hs
register hs (t ∷ ts) =
    register (pick (is_some (mode_of hs t)) hs (hs ++ record { tx = t; mode = Shared } ∷ [])) ts

-- a right comes back with the transactions that still read under it
unfoldable pub returned : LockEntry → ℕ → List TxId → LockEntry
returned e n readers =
    pick (has_right e.rights n)
    (record e { rights = rights_without e.rights n; holders = register e.holders readers }) e

-- a report lists a lock, and a report lists a right
unfoldable pub reported : LockEntry → TxId → Mode → LockEntry
reported e t m =
    pick (is_some (mode_of e.holders t))
    e (record e { holders = e.holders ++ record { tx = t; mode = m } ∷ [] })

-- a report lists a right
unfoldable pub reported_right : LockEntry → ℕ → LockEntry
reported_right e n =
    pick (has_right e.rights n)
    e (record e { rights = e.rights ++ record { node = n; revoked = false } ∷ [] })

-- only what live nodes have stays
unfoldable pub purge : LockEntry → List Bool → LockEntry
purge e live =
    record {
      version = e.version;
      holders = filter (λ h. flag_at live h.tx.node) e.holders;
      rights = filter (λ r. flag_at live r.node) e.rights;
      waiting = filter (λ w. flag_at live w.tx.node) e.waiting;
    }

-- the first that waits and is a holder
unfoldable pub first_upgrade : List Holder → List Waiter → Option Waiter
first_upgrade hs [] = None
first_upgrade hs (w ∷ ws) = pick (is_some (mode_of hs w.tx)) (Some w) (first_upgrade hs ws)

-- the candidate: the first that waits and is a holder, else the first that waits
unfoldable pub candidate : LockEntry → Option Waiter
candidate e = or_else (first_upgrade e.holders e.waiting) (head_of e.waiting)

-- whether another transaction holds the page, and whether one holds it exclusively
abbrev pub held_beside : List Holder → TxId → Bool
held_beside hs t = list_any (λ h. not (same_tx h.tx t)) hs

-- whether another transaction holds the page exclusively
abbrev pub exclusive_beside : List Holder → TxId → Bool
exclusive_beside hs t = list_any (λ h. not (same_tx h.tx t) && is_exclusive h.mode) hs

-- a shared grant carries a right where the candidate's node isn't the owner and has none, and no
-- exclusive request waits among the others
unfoldable pub gives_right : ℕ → LockEntry → Waiter → Bool
gives_right owner e w =
    not (w.tx.node == owner)
    && (not (has_right e.rights w.tx.node)
    && not (list_any (λ x. is_exclusive x.mode) (waiting_without e.waiting w.tx)))

-- the transaction holds the page exclusively: in its place where it is a holder, else last
unfoldable pub hold_alone : List Holder → TxId → List Holder
hold_alone [] t = record { tx = t; mode = Exclusive } ∷ []
hold_alone (h ∷ hs) t =
    pick (same_tx h.tx t) (record { tx = t; mode = Exclusive } ∷ hs) (h ∷ hold_alone hs t)

-- the entry after a shared grant with a right, a shared one without, and an exclusive one
abbrev pub with_right : LockEntry → Waiter → LockEntry
with_right e w =
    record e {
      rights = e.rights ++ record { node = w.tx.node; revoked = false } ∷ [];
      waiting = waiting_without e.waiting w.tx;
    }

-- the entry after a shared grant without a right
abbrev pub with_reader : LockEntry → Waiter → LockEntry
with_reader e w =
    record e {
      holders = e.holders ++ record { tx = w.tx; mode = Shared } ∷ [];
      waiting = waiting_without e.waiting w.tx;
    }

-- the entry after an exclusive grant
abbrev pub with_writer : LockEntry → Waiter → LockEntry
with_writer e w =
    record e { holders = hold_alone e.holders w.tx; waiting = waiting_without e.waiting w.tx }

-- the revocations of the rights that aren't revoked, in order, and the rights with all revoked
unfoldable pub revocations : List RightMark → List Decision
revocations [] = []
revocations (r ∷ rs) = pick r.revoked (revocations rs) (Revoke r.node ∷ revocations rs)

-- the rights, all revoked
abbrev pub all_revoked : List RightMark → List RightMark
all_revoked rs = map (λ r. record { node = r.node; revoked = true }) rs

-- one turn of settling: the last decisions and the entry that stays, or one decision and the entry
-- that is settled on
pub data Turn : Type 0 where
  Rest : List Decision → LockEntry → Turn
  Next : Decision → LockEntry → Turn

-- the turn of a candidate that wants to read
abbrev pub turn_shared : ℕ → LockEntry → Waiter → Turn
turn_shared owner e w =
    pick (exclusive_beside e.holders w.tx) (Rest [] e)
    (Next (Grant w.tx Shared (gives_right owner e w) w.have)
    (pick (gives_right owner e w) (with_right e w) (with_reader e w)))

-- the turn of a candidate that wants to write
abbrev pub turn_exclusive : LockEntry → Waiter → Turn
turn_exclusive e w =
    pick (held_beside e.holders w.tx || not (length e.rights == 0))
    (Rest (revocations e.rights) (record e { rights = all_revoked e.rights }))
    (Next (Grant w.tx Exclusive false w.have) (with_writer e w))

-- the turn of a candidate by its mode
abbrev pub turn_for : ℕ → LockEntry → Waiter → Mode → Turn
turn_for owner e w Shared = turn_shared owner e w
turn_for owner e w Exclusive = turn_exclusive e w

-- the turn of a candidate, if there is one
abbrev pub turn_at : ℕ → LockEntry → Option Waiter → Turn
turn_at owner e None = Rest [] e
turn_at owner e (Some w) = turn_for owner e w w.mode

-- one turn of settling
unfoldable pub turn : ℕ → LockEntry → Turn
turn owner e = turn_at owner e (candidate e)

-- the decisions of settling, and the entry after them
pub record Settled : Type 0 where
  pub decisions : List Decision
  pub entry : LockEntry

-- a decision before those of further turns
abbrev pub after_decision : Decision → Settled → Settled
after_decision d s = record { decisions = d ∷ s.decisions; entry = s.entry }

-- settling goes on after each grant
abbrev pub go_on : Turn → (LockEntry → Settled) → Settled
go_on (Rest ds e) settle_on = record { decisions = ds; entry = e }
go_on (Next d e) settle_on = after_decision d (settle_on e)

-- settling for at most n grants; each grant takes one of those that wait
unfoldable pub settle_within : ℕ → ℕ → LockEntry → Settled
settle_within zero owner e = record { decisions = []; entry = e }
settle_within (suc n) owner e = go_on (turn owner e) (settle_within n owner)

-- settling until nothing applies
unfoldable pub settle : ℕ → LockEntry → Settled
settle owner e = settle_within (length e.waiting) owner e
