-- Runs of one node in which nothing fails, with at most one open transaction at a time.
use Rattle.std.specs.Prelude.{◌≡◌, ℕ, ◌≤◌, Bool, true, false, List, length, Option, Some, None}
use Rattle.std.specs.List.{All}
use Rattle.pcl_base.specs.Limits.{Sizes, InLimits}
use Rattle.pcl_base.specs.declared.event.Event.{Event}
use Rattle.pcl_base.specs.declared.event.Event.TheVariants as event
use Rattle.run_rules.specs.Account.{IsAccounted}
use Rattle.run_rules.specs.Fresh.{IsFresh}
use Rattle.run_rules.specs.Serial.{IsSerial}
use Rattle.node_rules.specs.NodeState.{NodeState}
use Rattle.cluster_rules.specs.Clusters.{node_at}
use Rattle.cluster_rules.specs.Run.{run, last}
use Rattle.cluster_rules.specs.Safe.{Safe}

-- whether an event neither loses a node, nor makes a view, nor arms a stop
abbrev pub is_plain : Event → Bool
is_plain (event.Crash n) = false
is_plain (event.View live owners) = false
is_plain (event.Arm n call kept) = false
is_plain _ = true

-- how many transactions are open at a node, and none where it is down
abbrev pub open_in : Option NodeState → ℕ
open_in None = 0
open_in (Some n) = length n.home.txs.txs

-- each event is plain, and in each cluster of the run at most one transaction is open
pub record OneAtATime (c : Sizes) (es : List Event) : Type 0 where
  pub plain : All (λ e. is_plain e ≡ true) es
  pub one : All (λ k. open_in (node_at k 0) ≤ 1) (run c es)

-- such a run of one node is fresh
abbrev pub AloneIsFresh : Type 0
AloneIsFresh = (c : Sizes) (es : List Event) → InLimits c → c.nodes ≡ 1 → OneAtATime c es → IsFresh c (last c es).trace

-- and serial
abbrev pub AloneIsSerial : Type 0
AloneIsSerial = (c : Sizes) (es : List Event) → InLimits c → c.nodes ≡ 1 → OneAtATime c es → IsSerial c (last c es).trace

-- and each of its messages has its cause
abbrev pub AloneIsAccounted : Type 0
AloneIsAccounted = (c : Sizes) (es : List Event) → InLimits c → c.nodes ≡ 1 → OneAtATime c es → IsAccounted c (last c es).trace

-- all that a safe cluster is: durable too
abbrev pub AloneIsSafe : Type 0
AloneIsSafe = (c : Sizes) (es : List Event) → InLimits c → c.nodes ≡ 1 → OneAtATime c es → Safe (last c es)
