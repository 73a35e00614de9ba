-- Eras and lives by epochs: who owns a partition since when, and who is live and was born when, in the
-- view of an epoch.
use Rattle.std.specs.Prelude.{ℕ, ◌+◌, Bool, false, Option, Some, None}
use Rattle.run_rules.specs.Views.{View, is_live, since_of, born_of}
use Rattle.node_rules.specs.NodeState.{NodeState, owner_in}
use Rattle.cluster_rules.specs.Clusters.{Cluster, view_of_epoch}

-- the era of a partition in a view; none is 0
abbrev pub era_in : Option View → ℕ → ℕ
era_in None q = 0
era_in (Some v) q = since_of v q

-- the birth of a node in a view
abbrev pub born_in : Option View → ℕ → ℕ
born_in None n = 0
born_in (Some v) n = born_of v n

-- whether a node is live in a view
abbrev pub live_in : Option View → ℕ → Bool
live_in None n = false
live_in (Some v) n = is_live v.live n

-- the era of a partition in the view of an epoch: the epoch from which its owner there has it
unfoldable pub era_at : Cluster → ℕ → ℕ → ℕ
era_at c q e = era_in (view_of_epoch c.views e) q

-- the owner of a partition in the view of an epoch
unfoldable pub owner_at : Cluster → ℕ → ℕ → ℕ
owner_at c q e = owner_in (view_of_epoch c.views e) q

-- the birth of a node in the view of an epoch
unfoldable pub born_at : Cluster → ℕ → ℕ → ℕ
born_at c n e = born_in (view_of_epoch c.views e) n

-- whether a node is live in the view of an epoch
unfoldable pub live_at : Cluster → ℕ → ℕ → Bool
live_at c n e = live_in (view_of_epoch c.views e) n

-- the life of a node that is up: it began with its birth; that of a node in no view begins with the next epoch
abbrev pub life_in : NodeState → Option View → ℕ
life_in s None = s.epoch + 1
life_in s (Some v) = s.home.txs.born

-- the life of a node that is up
abbrev pub life_of : NodeState → ℕ
life_of s = life_in s s.view
