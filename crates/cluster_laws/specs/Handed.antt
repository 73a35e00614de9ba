-- Which event a node gets of one of the cluster's.
use Rattle.std.specs.Prelude.{◌≡◌, ℕ, ◌+◌, nat_le, false, Option, Some, None, is_some, option_map}
use Rattle.std.specs.List.{list_any}
use Rattle.pcl_base.specs.declared.event.Event.{Event}
use Rattle.pcl_base.specs.declared.event.Event.TheVariants as event
use Rattle.node_rules.specs.Words.{pick, head_of}
use Rattle.node_rules.specs.NodeState.{NodeState, NodeEvent}
use Rattle.node_rules.specs.NodeState as node
use Rattle.cluster_rules.specs.Links.{head_at}
use Rattle.cluster_rules.specs.Clusters.{Cluster, node_at, view_of_epoch}
use Rattle.cluster_rules.specs.ClusterStep.{named}

-- the event that the acting node gets, if it gets one: the head of the link where it is in a view, and
-- the view after its own
abbrev pub handed_to : Cluster → NodeState → Event → Option NodeEvent
handed_to c s (event.Begin n) = Some node.Begin
handed_to c s (event.Read t p) = Some (node.Read t p)
handed_to c s (event.Write t p place bytes) = Some (node.Write t p place bytes)
handed_to c s (event.Commit t) = Some (node.Commit t)
handed_to c s (event.Abort t) = Some (node.Abort t)
handed_to c s (event.Deliver from to) = pick (is_some s.view) (option_map (node.Deliver from) (head_at c.links from to)) None
handed_to c s (event.Evict n p) = Some (node.Evict p)
handed_to c s (event.Flush n p) = Some (node.Flush p)
handed_to c s (event.Crash n) = None
handed_to c s (event.View live owners) = None
handed_to c s (event.Install n) = option_map node.Install (view_of_epoch c.views (s.epoch + 1))
handed_to c s event.Reopen = None
handed_to c s (event.Arm n call kept) = None
handed_to c s (event.Cut n) = Some node.Cut

-- node n, whose state is s, gets the event ev for the cluster's event e
pub record IsHanded (c : Cluster) (e : Event) (n : ℕ) (s : NodeState) (ev : NodeEvent) : Type 0 where
  pub known : list_any (nat_le c.config.nodes) (named e) ≡ false
  pub acts : head_of (named e) ≡ Some n
  pub up : node_at c n ≡ Some s
  pub event : handed_to c s e ≡ Some ev
