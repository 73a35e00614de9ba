-- Whether a message still counts: whether its receiver may take it, now or later.
use Rattle.std.specs.Prelude.{ℕ, not, nat_lt, Bool, true, false, Option, Some, None}
use Rattle.pcl_base.specs.declared.lock.Verdict.{Verdict}
use Rattle.pcl_base.specs.declared.lock.Verdict.TheVariants as verdict
use Rattle.run_rules.specs.Views.{View}
use Rattle.node_rules.specs.Judging.{judge}
use Rattle.node_rules.specs.NodeState.{NodeState, number_of}

-- whether a message is dropped
abbrev pub is_dropped : Verdict → Bool
is_dropped verdict.Dropped = true
is_dropped _ = false

-- Whether a message from a node, of an epoch, that speaks of partition q may still be taken at its receiver
-- in a view: judging doesn't drop it now. One that is held counts. A node in no view holds all, and drops
-- those that aren't of its life, which begins with the next epoch.
abbrev pub counts_at : NodeState → Option View → ℕ → ℕ → ℕ → Bool
counts_at s None from q epoch = nat_lt s.epoch epoch
counts_at s (Some v) from q epoch = not (is_dropped (judge v (number_of s) from epoch q))

-- the same of a receiver that may be down
abbrev pub counts_in : Option NodeState → ℕ → ℕ → ℕ → Bool
counts_in None from q epoch = false
counts_in (Some s) from q epoch = counts_at s s.view from q epoch
