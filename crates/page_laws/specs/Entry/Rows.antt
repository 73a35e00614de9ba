-- Decisions that may not be made, and one that may, at small entries.
use Rattle.std.specs.Prelude.{ℕ, true, false, List, [], ◌∷◌, Option, None}
use Rattle.pcl_base.specs.declared.tx.Mode.TheVariants.{Shared, Exclusive}
use Rattle.pcl_base.specs.declared.lock.Decision.TheVariants.{Grant, Revoke}
use Rattle.pcl_base.specs.declared.message.ReportLock.{ReportLock}
use Rattle.pcl_base.specs.declared.message.ReportRight.{ReportRight}
use Rattle.node_rules.specs.LockRule.{LockEntry}
use Rattle.node_rules.specs.LockRows.{a, b, c, reads, writes, to_read, to_write, may, revoked, at_five}
use Rattle.page_laws.specs.Entry.Decisions.{NoWriterWaits, IsLocked, IsGiven, IsMarked, Settles}

-- no grant in exclusive mode beside a reader, or beside a right
abbrev pub NotBesideAReader : Type 0
NotBesideAReader = (have : Option ℕ) (later : LockEntry) → IsLocked (at_five (reads a ∷ []) [] (to_write b ∷ [])) b Exclusive have later → ⊥

abbrev pub NotBesideARight : Type 0
NotBesideARight = (have : Option ℕ) (later : LockEntry) → IsLocked (at_five [] (may 1 ∷ []) (to_write a ∷ [])) a Exclusive have later → ⊥

-- no grant beside a writer
abbrev pub NotBesideAWriter : Type 0
NotBesideAWriter = (have : Option ℕ) (later : LockEntry) → IsLocked (at_five (writes a ∷ []) [] (to_read b ∷ [])) b Shared have later → ⊥

-- no grant to one that doesn't wait
abbrev pub NotUnasked : Type 0
NotUnasked = (have : Option ℕ) (later : LockEntry) → IsLocked (at_five [] [] []) a Shared have later → ⊥

-- no right while another one waits to write, and none to the owner
abbrev pub NoRightBeforeAWriter : Type 0
NoRightBeforeAWriter = (have : Option ℕ) (later : LockEntry) → IsGiven 0 (at_five [] [] (to_read b ∷ to_write c ∷ [])) b have later → ⊥

abbrev pub NoRightToTheOwner : Type 0
NoRightToTheOwner = (have : Option ℕ) (later : LockEntry) → IsGiven 1 (at_five [] [] (to_read b ∷ [])) b have later → ⊥

-- no second revocation of a right
abbrev pub NotRevokedTwice : Type 0
NotRevokedTwice = (later : LockEntry) → IsMarked (at_five [] (revoked 1 ∷ []) (to_write a ∷ [])) 1 later → ⊥

-- a reader of the owner becomes a holder, and then the node of another one gets a right
abbrev pub OneAfterTheOther : Type 0
OneAfterTheOther =
    Settles 0 (at_five [] [] (to_read a ∷ to_read b ∷ [])) (Grant a Shared false None ∷ Grant b Shared true None ∷ [])
    (at_five (reads a ∷ []) (may 1 ∷ []) [])

-- of two rights the one that isn't revoked is
abbrev pub RevokedOnce : Type 0
RevokedOnce =
    Settles 0 (at_five [] (revoked 2 ∷ may 1 ∷ []) (to_write a ∷ [])) (Revoke 1 ∷ [])
    (at_five [] (revoked 2 ∷ revoked 1 ∷ []) (to_write a ∷ []))

-- a writer that waits for what it has
abbrev pub WaitsInVain : Type 0
WaitsInVain = NoWriterWaits (at_five (writes b ∷ []) [] (to_read b ∷ [])) → ⊥

-- locks and rights on two pages, as a report lists them
abbrev pub some_locks : List ReportLock
some_locks =
    record { tx = a; page = 3; mode = Shared } ∷ record { tx = b; page = 3; mode = Exclusive } ∷ record { tx = b; page = 5; mode = Shared } ∷ []

abbrev pub some_rights : List ReportRight
some_rights = record { page = 5; version = 2 } ∷ []
