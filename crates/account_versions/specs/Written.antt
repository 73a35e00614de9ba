-- Which writes the ledger of a trace has, and that the scripts have the same.
use Rattle.std.specs.Prelude.{◌≡◌, ◌==◌, ◌&&◌, ◌≤◌, ℕ, Bool, false, List, length}
use Rattle.std.specs.List.{list_any, filter}
use Rattle.pcl_base.specs.Limits.{Sizes}
use Rattle.pcl_base.specs.declared.trace.Entry.{Entry}
use Rattle.pcl_base.specs.declared.tx.TxId.{TxId}
use Rattle.run_rules.specs.Ledger.{Ledger, is_of}
use Rattle.run_rules.specs.Running.{writes}
use Rattle.run_rules.specs.Script.{Moment, Writes, moments, script}
use Rattle.run_rules.specs.Words.{same_tx}
use Rattle.account_relation.specs.Ledgers.{Leaves}
use Rattle.account_versions.specs.Asked.{WritesAreAsked}

-- whether a moment grants a write of page p to t
abbrev pub grants_write : TxId → ℕ → Moment → Bool
grants_write t p (Writes u q v) = same_tx u t && q == p
grants_write t p _ = false

-- whether one of some moments does
abbrev pub was_granted : TxId → ℕ → List Moment → Bool
was_granted t p ms = list_any (grants_write t p) ms

-- the granted writes of a ledger: those of the moments, each once
pub record AreGranted (ms : List Moment) (l : Ledger) : Type 0 where
  pub done : (t : TxId) (p : ℕ) → list_any (is_of t p) l.done ≡ was_granted t p ms
  pub once : (t : TxId) (p : ℕ) → length (filter (is_of t p) l.done) ≤ 1

-- A ledger has the granted writes of its trace.
abbrev pub LedgersHaveWrites : Type 0
LedgersHaveWrites = (c : Sizes) (trace : List Entry) (l : Ledger) → Leaves c trace l → AreGranted (moments trace) l

-- Where each granted write was asked for, a script writes the pages whose writes were granted.
abbrev pub ScriptsHaveWrites : Type 0
ScriptsHaveWrites = (t : TxId) (p : ℕ) (ms : List Moment) → WritesAreAsked ms → list_any (writes p) (script t ms) ≡ was_granted t p ms
