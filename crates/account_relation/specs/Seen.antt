-- What the ledger of a trace has of each node's view.
use Rattle.std.specs.Prelude.{◌≡◌, ℕ, ◌<◌, ◌==◌, true, Option, IfSome, length}
use Rattle.std.specs.List.{list_any}
use Rattle.pcl_base.specs.Limits.{Sizes}
use Rattle.pcl_base.specs.declared.event.Event.{Event}
use Rattle.run_rules.specs.Ledger.{Ledger, first_ledger, view_at, installed_at}
use Rattle.run_rules.specs.Views.{View, owner_of, since_of}
use Rattle.node_rules.specs.NodeState.{NodeState}
use Rattle.cluster_rules.specs.Clusters.{Cluster, opening, node_at}
use Rattle.cluster_rules.specs.ClusterStep.{step}
use Rattle.cluster_laws.specs.Sound.{IsCluster}
use Rattle.account_relation.specs.Ledgers.{Leaves}
use Rattle.account_relation.specs.World.{IsWorld, NothingDiffers}

-- the ledger has this view of the node, and has heard of each install since which the node owns a partition
pub record IsSeenAt (partitions : ℕ) (l : Ledger) (n : ℕ) (v : View) : Type 0 where
  pub seen : view_at l n ≡ v
  pub since : (q : ℕ) → q < partitions → owner_of v q ≡ n → list_any (λ e. e == since_of v q) (installed_at l n) ≡ true

-- the same of a node that may be down, or in no view
abbrev pub IsSeenIn : ℕ → Ledger → ℕ → Option NodeState → Type 0
IsSeenIn partitions l n o = IfSome o (λ s. IfSome s.view (IsSeenAt partitions l n))

-- the views of all nodes
pub record AreSeen (c : Cluster) (l : Ledger) : Type 0 where
  pub views : length l.seen ≡ c.config.nodes
  pub epochs : length l.installed ≡ c.config.nodes
  pub nodes : (n : ℕ) → IsSeenIn c.config.nodes l n (node_at c n)

-- the opening cluster
abbrev pub OpeningIsSeen : Type 0
OpeningIsSeen = (c : Sizes) → AreSeen (opening c) (first_ledger c)

-- a step on any event
abbrev pub StepsKeepSeen : Type 0
StepsKeepSeen =
    (c : Cluster) (e : Event) (l m : Ledger) → IsCluster c → NothingDiffers c e → Leaves c.config c.trace l → Leaves c.config (step c e).trace m → IsWorld c l → AreSeen c l
    → AreSeen (step c e) m
