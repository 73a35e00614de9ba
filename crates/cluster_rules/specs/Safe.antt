-- Safe: each granted access finds its page, committed transactions are as if one after the other,
-- the disks hold what they made, and each message has its cause.
use Rattle.std.specs.Prelude.{ℕ, ◌+◌, ◌&&◌, Bool, List, [], ◌∷◌, Option, None, Some, is_none}
use Rattle.run_rules.specs.Account.{IsAccounted, account_fault}
use Rattle.run_rules.specs.Durable.{IsDurable, durable_fault}
use Rattle.run_rules.specs.Fresh.{IsFresh, fresh_fault}
use Rattle.run_rules.specs.Serial.{IsSerial, serial_fault}
use Rattle.node_rules.specs.Words.{pick}
use Rattle.cluster_rules.specs.Clusters.{Cluster}

-- a cluster is safe
pub record Safe (c : Cluster) : Type 0 where
  pub fresh : IsFresh c.config c.trace
  pub serial : IsSerial c.config c.trace
  pub durable : IsDurable c.config c.trace c.disk
  pub account : IsAccounted c.config c.trace

-- whether a cluster is safe, computed
unfoldable pub is_safe : Cluster → Bool
is_safe c =
    (is_none (fresh_fault c.config c.trace) && is_none (serial_fault c.config c.trace))
    && (is_none (durable_fault c.config c.trace c.disk) && is_none (account_fault c.config c.trace))

-- the first of some clusters, counted from n, that isn't safe
unfoldable pub first_unsafe : ℕ → List Cluster → Option ℕ
first_unsafe n [] = None
first_unsafe n (c ∷ cs) = pick (is_safe c) (first_unsafe (n + 1) cs) (Some n)
