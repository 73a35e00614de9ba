-- What settling an entry leaves and what it decides.
use Rattle.std.specs.Prelude.{◌≡◌, ◌⊎◌, ℕ, ◌+◌, ◌≤◌, Bool, true, false, List, [], ◌∷◌, length, Option, Some, None}
use Rattle.std.specs.List.{list_all, Contains, fold}
use Rattle.pcl_base.specs.declared.tx.TxId.{TxId}
use Rattle.pcl_base.specs.declared.tx.Mode.{Mode}
use Rattle.pcl_base.specs.declared.tx.Mode.TheVariants.{Shared, Exclusive}
use Rattle.pcl_base.specs.declared.lock.Waiter.{Waiter}
use Rattle.pcl_base.specs.declared.lock.RightMark.{RightMark}
use Rattle.pcl_base.specs.declared.lock.Decision.{Decision}
use Rattle.pcl_base.specs.declared.lock.Decision.TheVariants.{Grant, Revoke}
use Rattle.node_rules.specs.Words.{pick, same_tx}
use Rattle.node_rules.specs.LockRule.{LockEntry, candidate, held_beside, exclusive_beside, waits_in, waiting_without, settle}

-- a transaction that may not be granted: beside a shared one another holds exclusively; beside an
-- exclusive one another holds, or rights stand, and each of these is revoked
abbrev pub IsBarred : LockEntry → Waiter → Mode → Type 0
IsBarred e w Shared = exclusive_beside e.holders w.tx ≡ true
IsBarred e w Exclusive =
    ((held_beside e.holders w.tx ≡ true) ⊎ (1 ≤ length e.rights)) × (list_all (λ r. r.revoked) e.rights ≡ true)

-- nobody waits, or the candidate may not be granted
abbrev pub IsSettledAt : LockEntry → Option Waiter → Type 0
IsSettledAt e None = e.waiting ≡ []
IsSettledAt e (Some w) = IsBarred e w w.mode

abbrev pub IsSettled : LockEntry → Type 0
IsSettled e = IsSettledAt e (candidate e)

abbrev pub SettlingSettles : Type 0
SettlingSettles = (owner : ℕ) (e : LockEntry) → IsSettled (settle owner e).entry

-- the requests that are granted, and the nodes whose rights are revoked, in order
abbrev pub granted : List Decision → List Waiter
granted [] = []
granted (Grant t m right have ∷ ds) = record { tx = t; mode = m; have = have } ∷ granted ds
granted (Revoke n ∷ ds) = granted ds

abbrev pub revoked : List Decision → List ℕ
revoked [] = []
revoked (Grant t m right have ∷ ds) = revoked ds
revoked (Revoke n ∷ ds) = n ∷ revoked ds

-- the nodes whose rights aren't revoked
abbrev pub unrevoked : List RightMark → List ℕ
unrevoked [] = []
unrevoked (r ∷ rs) = pick r.revoked (unrevoked rs) (r.node ∷ unrevoked rs)

-- 1 at true and 0 at false
abbrev pub once_if : Bool → ℕ
once_if true = 1
once_if false = 0

-- how many of some requests are a transaction's
abbrev pub count_of : List Waiter → TxId → ℕ
count_of [] t = 0
count_of (w ∷ ws) t = once_if (same_tx w.tx t) + count_of ws t

-- each request that is granted waited, with this mode and this copy
abbrev pub GrantsWaited : Type 0
GrantsWaited =
    (owner : ℕ) (e : LockEntry) (w : Waiter) → Contains (granted (settle owner e).decisions) w → Contains e.waiting w

-- a transaction is granted at most once, and not at all unless it waited
abbrev pub GrantsOnce : Type 0
GrantsOnce =
    (owner : ℕ) (e : LockEntry) (t : TxId) → count_of (granted (settle owner e).decisions) t ≤ once_if (waits_in e.waiting t)

-- those wait on, in their order, that were not granted
abbrev pub OthersWaitOn : Type 0
OthersWaitOn =
    (owner : ℕ) (e : LockEntry)
    → (settle owner e).entry.waiting ≡ fold (λ ws w. waiting_without ws w.tx) e.waiting (granted (settle owner e).decisions)

-- no right is revoked, or each that was there unrevoked, in order, and no other
abbrev pub RevokesAll : Type 0
RevokesAll =
    (owner : ℕ) (e : LockEntry)
    → (revoked (settle owner e).decisions ≡ []) ⊎ (revoked (settle owner e).decisions ≡ unrevoked e.rights)
