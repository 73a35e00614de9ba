-- What an owner plans for a page when something arrives for it: the page's entry changes by the lock
-- rule, and is settled where the partition is served.
use Rattle.std.specs.Prelude.{ℕ, Bool, true, false, List, [], Option, Some, None}
use Rattle.pcl_base.specs.declared.tx.TxId.{TxId}
use Rattle.pcl_base.specs.declared.lock.Decision.{Decision}
use Rattle.pcl_base.specs.declared.lock.Waiter.{Waiter}
use Rattle.node_rules.specs.LockRule.{LockEntry, Settled, ask, end_tx, takes_change, returned, settle}
use Rattle.node_rules.specs.LockTable.{LockTable, entry_at}

-- the entry afterwards, whether a change was taken, and the decisions in order
pub record Plan : Type 0 where
  pub entry : LockEntry
  pub changed : Bool
  pub decisions : List Decision

-- an entry of a served partition is settled; of one that is being rebuilt nothing is decided
abbrev pub settled : Bool → ℕ → LockEntry → Settled
settled true me e = settle me e
settled false me e = record { decisions = []; entry = e }

-- the plan for a changed entry
abbrev pub plan : Bool → Bool → ℕ → LockEntry → Plan
plan serving changed me e =
    record { entry = (settled serving me e).entry; changed = changed; decisions = (settled serving me e).decisions }

-- a change counts while the partition is served
abbrev pub version_if : Bool → Option ℕ → Option ℕ
version_if true change = change
version_if false change = None

-- a request arrives
abbrev pub plan_request : LockTable → ℕ → ℕ → Waiter → Plan
plan_request t me p w = plan t.serving false me (ask (entry_at t p) w)

-- a release arrives, or an own transaction ends
abbrev pub plan_release : LockTable → ℕ → ℕ → TxId → Option ℕ → Plan
plan_release t me p tx change =
    plan t.serving (takes_change (entry_at t p) tx (version_if t.serving change)) me
    (end_tx (entry_at t p) tx (version_if t.serving change))

-- a right comes back with the transactions that still read under it
abbrev pub plan_return : LockTable → ℕ → ℕ → ℕ → List TxId → Plan
plan_return t me p from readers = plan t.serving false me (returned (entry_at t p) from readers)

-- a page is settled
abbrev pub plan_settle : LockTable → ℕ → ℕ → Plan
plan_settle t me p = plan t.serving false me (entry_at t p)
