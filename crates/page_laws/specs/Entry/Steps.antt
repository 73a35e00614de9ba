-- Which step of the machine of one page each decision of settling is, and each change of a served entry.
use Rattle.std.specs.Prelude.{◌≡◌, ◌≢◌, ℕ, true, false, List, Option, Some, None}
use Rattle.std.proofs.Common.{suc}
use Rattle.pcl_base.specs.declared.tx.TxId.{TxId}
use Rattle.pcl_base.specs.declared.tx.Mode.{Mode}
use Rattle.pcl_base.specs.declared.tx.Mode.TheVariants.{Exclusive}
use Rattle.node_rules.specs.LockRule.{LockEntry, mode_of, has_right, takes_change, end_tx, returned}
use Rattle.page_protocol.specs.State.{Word, Right, NoRight, Returning, Ended, Page, IsFresh}
use Rattle.page_protocol.specs.Authority.{granting, giving, returning, releasing, releasing_change, releasing_to_disk, WordFits}
use Rattle.page_protocol.specs.Steps.{Step}
use Rattle.page_laws.specs.Entry.Decisions.{IsLocked, IsGiven, IsMarked}

-- An entry has what the machine lists of the era that serves: the version, the holders, and each right that is
-- out. It may have a right more: one that its node has lost.
pub record HasListed (era entry : ℕ) (listed : TxId → ℕ → Option Mode) (right : ℕ → Right) (e : LockEntry) : Type 0 where
  pub version : e.version ≡ entry
  pub holders : (t : TxId) → mode_of e.holders t ≡ listed t era
  pub rights : (n : ℕ) → right n ≢ NoRight → has_right e.rights n ≡ true

-- the same of a state of the machine
abbrev pub IsEntryOf : Page → LockEntry → Type 0
IsEntryOf a e = HasListed a.era a.entry a.listed a.right e

-- a step of the machine leads to a state that has this entry
pub record IsStepTo (a b : Page) (later : LockEntry) : Type 0 where
  pub step : Step a b
  pub entry : IsEntryOf b later

-- a grant without a right
abbrev pub GrantIsStep : Type 0
GrantIsStep =
    (a : Page) (e later : LockEntry) (t : TxId) (m : Mode) (have : Option ℕ) (w : Word) → IsEntryOf a e → IsLocked e t m have later → a.served ≡ true
    → (IsFresh (a.home t) → ⊥) → WordFits a t w → IsStepTo a (granting a t m w) later

-- a grant with a right
abbrev pub RightIsStep : Type 0
RightIsStep =
    (a : Page) (owner : ℕ) (e later : LockEntry) (t : TxId) (have : Option ℕ) (w : Word) → IsEntryOf a e → IsGiven owner e t have later → a.served ≡ true
    → (IsFresh (a.home t) → ⊥) → WordFits a t w → IsStepTo a (giving a t w) later

-- a revocation is no step of the machine
abbrev pub RevocationIsNone : Type 0
RevocationIsNone = (a : Page) (e later : LockEntry) (n : ℕ) → IsEntryOf a e → IsMarked e n later → IsEntryOf a later

-- The release of an ended transaction, whose change isn't taken. One with a change is the exclusive holder.
abbrev pub ReleaseIsStep : Type 0
ReleaseIsStep =
    (a : Page) (e : LockEntry) (t : TxId) (change : Option ℕ) → IsEntryOf a e → a.home t ≡ Ended change a.era → takes_change e t change ≡ false
    → ((v : ℕ) → change ≡ Some v → a.listed t a.era ≡ Some Exclusive) → IsStepTo a (releasing a t a.era) (end_tx e t change)

-- the release of an ended transaction, whose change is taken: it goes into the owner's slot, or to disk
pub record ChangeIsTaken (a : Page) (e : LockEntry) (t : TxId) (v : ℕ) : Type 0 where
  pub next : v ≡ suc a.entry
  pub to_slot : IsStepTo a (releasing_change a t v) (end_tx e t (Some v))
  pub to_disk : a.slot a.owner ≡ None → IsStepTo a (releasing_to_disk a t v) (end_tx e t (Some v))

abbrev pub ChangeIsStep : Type 0
ChangeIsStep =
    (a : Page) (e : LockEntry) (t : TxId) (v : ℕ) → IsEntryOf a e → a.served ≡ true → a.home t ≡ Ended (Some v) a.era → takes_change e t (Some v) ≡ true
    → ChangeIsTaken a e t v

-- the answer to a revocation
abbrev pub ReturnIsStep : Type 0
ReturnIsStep =
    (a : Page) (e : LockEntry) (n : ℕ) (readers : List TxId) → IsEntryOf a e → a.right n ≡ Returning (suc a.era) readers
    → IsStepTo a (returning a n readers) (returned e n readers)
