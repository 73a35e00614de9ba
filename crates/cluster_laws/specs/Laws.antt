-- The laws of clusters in a run.
use Rattle.std.specs.Prelude.{◌≡◌, ℕ, ◌<◌, List, Some}
use Rattle.std.specs.List.{AllByRecursion}
use Rattle.pcl_base.specs.Limits.{Sizes, InLimits}
use Rattle.pcl_base.specs.declared.event.Event.{Event}
use Rattle.node_rules.specs.NodeState.{NodeState, NodeEvent}
use Rattle.node_rules.specs.Work.{Goes}
use Rattle.node_rules.specs.NodeStep.{Plan, nodestep}
use Rattle.node_laws.specs.Laws.{IsStep}
use Rattle.node_laws.specs.Nodes.{CanCome}
use Rattle.cluster_rules.specs.Clusters.{Cluster, opening, node_at, last_view}
use Rattle.cluster_rules.specs.ClusterStep.{step, node_step}
use Rattle.cluster_rules.specs.Run.{run}
use Rattle.cluster_laws.specs.Sound.{IsMember, IsOnLink, IsCluster}
use Rattle.cluster_laws.specs.Handed.{IsHanded}

-- the opening cluster
abbrev pub OpeningIsCluster : Type 0
OpeningIsCluster = (c : Sizes) → InLimits c → IsCluster (opening c)

-- a step on any event
abbrev pub StepKeepsClusters : Type 0
StepKeepsClusters = (c : Cluster) (e : Event) → IsCluster c → IsCluster (step c e)

-- every cluster of a run
abbrev pub RunsAreClusters : Type 0
RunsAreClusters = (c : Sizes) (es : List Event) → InLimits c → AllByRecursion IsCluster (run c es)

-- the event that a node gets can come to it
abbrev pub EventsCanCome : Type 0
EventsCanCome =
    (c : Cluster) (e : Event) (n : ℕ) (s : NodeState) (ev : NodeEvent) → IsCluster c → IsHanded c e n s ev → CanCome s ev

-- and the cluster's step is that of the node
abbrev pub HandedIsStepped : Type 0
HandedIsStepped =
    (c : Cluster) (e : Event) (n : ℕ) (s : NodeState) (ev : NodeEvent) → IsHanded c e n s ev → step c e ≡ node_step e n s ev c

-- a node that is up is one of the cluster's, and a member
abbrev pub UpIsMember : Type 0
UpIsMember =
    (c : Cluster) (n : ℕ) (s : NodeState) → IsCluster c → node_at c n ≡ Some s
    → (n < c.config.nodes) × IsMember c.config c.views n s

-- the plan of a member's step: it leaves a member, and what it sends may go on the links
pub record IsGoodPlan (c : Cluster) (n : ℕ) (s : NodeState) (ev : NodeEvent) (p : Plan) : Type 0 where
  pub step : IsStep s ev c.disk p
  pub member : IsMember c.config c.views n p.node
  pub sends : AllByRecursion (λ o. IsOnLink c.config (last_view c).epoch n o.to o.message) p.sends

-- the plan of a node for the event that it gets
abbrev pub PlansAreGood : Type 0
PlansAreGood =
    (c : Cluster) (e : Event) (n : ℕ) (s : NodeState) (ev : NodeEvent) (p : Plan) → IsCluster c → IsHanded c e n s ev
    → nodestep s ev c.disk ≡ Goes p → IsGoodPlan c n s ev p
