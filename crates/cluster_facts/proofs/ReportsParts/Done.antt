-- What becomes of the table of a partition at an install.
use Rattle.std.proofs.Common.{◌≡◌, ℕ, ◌==◌, Bool, true, false, replicate, slice_set, Option}
use Rattle.std.specs.Prelude.{IfSome}
use Rattle.run_rules.specs.Views.{View, owner_of, since_of}
use Rattle.node_rules.specs.LockTable.{LockTable}
use Rattle.node_rules.specs.NodeState.{NodeState, number_of, table_at}
use Rattle.cluster_facts.proofs.ReportsParts.Flags.{TableGoesOn}

-- a table that marks one node alone
abbrev pub IsNew : ℕ → LockTable → Type 0
IsNew me t = (k : ℕ) × (t.reported ≡ slice_set (replicate k false) me true)

module _ (n : NodeState) (v : View) where
  -- a partition that is done: its table goes on, or is a new one, by whether the owner is new
  abbrev pub DoneBy : Bool → ℕ → Option LockTable → Type 0
  DoneBy false q o = TableGoesOn (table_at n q) o
  DoneBy true q o = (owner_of v q == number_of n) ≡ true → IfSome o (IsNew (number_of n))

  abbrev pub Done : ℕ → Option LockTable → Type 0
  Done q o = DoneBy (since_of v q == v.epoch) q o
