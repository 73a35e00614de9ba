-- Which nodes can act on an event, and the event that its node gets.
use Rattle.std.specs.Prelude.{◌≡◌, ℕ, ⊤, nat_le, Bool, false, is_some, [], ◌∷◌, Option, Some, None}
use Rattle.pcl_base.specs.declared.reply.Reason.{Reason}
use Rattle.pcl_base.specs.declared.reply.Reason.TheVariants as reason
use Rattle.pcl_base.specs.declared.event.Event.{Event}
use Rattle.pcl_base.specs.declared.event.Event.TheVariants as event
use Rattle.node_rules.specs.Words.{pick}
use Rattle.node_rules.specs.NodeState.{NodeState, NodeEvent}
use Rattle.cluster_rules.specs.Clusters.{Cluster, is_up}
use Rattle.cluster_rules.specs.ClusterStep.{named}
use Rattle.cluster_laws.specs.Handed.{handed_to}

-- why a node can't act: it isn't one of the cluster, or is down
abbrev pub absent_at : Cluster → ℕ → Option Reason
absent_at c n = pick (nat_le c.config.nodes n) (Some reason.NoNode) (pick (is_up c n) None (Some reason.Down))

-- whether a node, if it is up, is in a view
abbrev pub viewed : Option NodeState → Bool
viewed None = false
viewed (Some s) = is_some s.view

-- an event of one node, which gets this event whatever the cluster
pub record IsPlain (e : Event) (n : ℕ) (event : NodeEvent) : Type 0 where
  pub named : named e ≡ n ∷ []
  pub handed : (c : Cluster) (s : NodeState) → handed_to c s e ≡ Some event

-- an event that its node gets as it is
abbrev pub IsAsked : Event → Type 0
IsAsked (event.Deliver from to) = ⊥
IsAsked (event.Crash n) = ⊥
IsAsked (event.View live owners) = ⊥
IsAsked (event.Install n) = ⊥
IsAsked event.Reopen = ⊥
IsAsked (event.Arm n call kept) = ⊥
IsAsked _ = ⊤
