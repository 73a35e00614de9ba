-- The numbers of locks and of waiting accesses of the open transactions.
use Rattle.std.specs.Prelude.{◌≡◌, ℕ, ◌+◌, ◌<◌, ◌^◌, List, [], ◌∷◌, length, Option, Some, None}
use Rattle.std.specs.Map.{values_of}
use Rattle.pcl_base.specs.declared.lock.Pending.{Pending}
use Rattle.node_rules.specs.OpenTxs.{OpenTx}
use Rattle.tx_table.specs.Links.{IsLinked}

-- the sum of what each transaction counts for
abbrev pub total : (OpenTx → ℕ) → List OpenTx → ℕ
total f [] = 0
total f (x ∷ xs) = f x + total f xs

-- the locks of a transaction
abbrev pub locks_in : OpenTx → ℕ
locks_in x = length x.pages

-- an access that waits, if there is one, counts as one
abbrev pub one_if : Option Pending → ℕ
one_if None = 0
one_if (Some w) = 1

-- the accesses for which a transaction waits, at most one
abbrev pub waits_in : OpenTx → ℕ
waits_in x = one_if x.waiting

-- the locks of all open transactions
abbrev pub lock_count : List OpenTx → ℕ
lock_count xs = total locks_in xs

-- the waiting accesses of all open transactions
abbrev pub wait_count : List OpenTx → ℕ
wait_count xs = total waits_in xs

-- the transactions are linked, and the numbers that are kept beside them are theirs
pub record IsCounted (last : ℕ) (es : List (ℕ × OpenTx)) (held waiting : ℕ) : Type 0 where
  pub linked : IsLinked 0 last es
  pub locks : held ≡ lock_count (values_of es)
  pub waits : waiting ≡ wait_count (values_of es)
  pub small : held + waiting < 2 ^ 64
