-- Entries in which one transaction holds the page exclusively and alone, or none does, and what keeps them so.
use Rattle.std.specs.Prelude.{◌≡◌, ◌⊎◌, ℕ, Bool, false, List, [], Option, Some}
use Rattle.std.specs.List.{list_any, Contains}
use Rattle.pcl_base.specs.declared.tx.TxId.{TxId}
use Rattle.pcl_base.specs.declared.tx.Mode.TheVariants.{Exclusive}
use Rattle.pcl_base.specs.declared.lock.Holder.{Holder}
use Rattle.pcl_base.specs.declared.lock.Waiter.{Waiter}
use Rattle.node_rules.specs.Words.{is_exclusive}
use Rattle.node_rules.specs.LockRule.{LockEntry, mode_of, held_beside, waits_in, idle, ask, settle, end_tx, returned, purge}

-- no holder is exclusive
abbrev pub HasNoWriter : LockEntry → Type 0
HasNoWriter e = list_any (λ h. is_exclusive h.mode) e.holders ≡ false

-- the transaction holds the page exclusively; no other holds it, no right stands, and it doesn't wait
pub record IsOnlyHolder (e : LockEntry) (t : TxId) : Type 0 where
  pub exclusive : mode_of e.holders t ≡ Some Exclusive
  pub alone : held_beside e.holders t ≡ false
  pub no_rights : e.rights ≡ []
  pub settled : waits_in e.waiting t ≡ false

-- no holder is exclusive, or the only transaction that holds the page is. An exclusive holder that waited
-- too could be granted a right beside its lock, so it may not wait
abbrev pub IsCompatible : LockEntry → Type 0
IsCompatible e = HasNoWriter e ⊎ ((t : TxId) × IsOnlyHolder e t)

-- all holders beside an exclusive one are its own transaction, and no right stands
abbrev pub WriterIsAlone : Type 0
WriterIsAlone =
    (e : LockEntry) (h other : Holder) → IsCompatible e → Contains e.holders h → h.mode ≡ Exclusive → Contains e.holders other
    → (other.tx ≡ h.tx) × (e.rights ≡ [])

abbrev pub IdleIsCompatible : Type 0
IdleIsCompatible = (v : ℕ) → IsCompatible (idle v)

abbrev pub AskKeeps : Type 0
AskKeeps = (e : LockEntry) (w : Waiter) → IsCompatible e → IsCompatible (ask e w)

abbrev pub SettlingKeeps : Type 0
SettlingKeeps = (owner : ℕ) (e : LockEntry) → IsCompatible e → IsCompatible (settle owner e).entry

abbrev pub EndKeeps : Type 0
EndKeeps = (e : LockEntry) (t : TxId) (change : Option ℕ) → IsCompatible e → IsCompatible (end_tx e t change)

abbrev pub ReturnKeeps : Type 0
ReturnKeeps = (e : LockEntry) (n : ℕ) (readers : List TxId) → IsCompatible e → IsCompatible (returned e n readers)

abbrev pub PurgeKeeps : Type 0
PurgeKeeps = (e : LockEntry) (live : List Bool) → IsCompatible e → IsCompatible (purge e live)
