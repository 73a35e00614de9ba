-- Changes of a cluster that keep what holds of it.
use Rattle.std.proofs.Common.{sym, subst, ◌∙◌, ℕ, List, [], ◌∷◌, ◌++◌, Option, Some, None}
use Rattle.std.specs.Prelude.{IfSome}
use Rattle.std.specs.List.{AllByRecursion}
use Rattle.pcl_base.specs.declared.event.Event.{Event}
use Rattle.pcl_base.specs.declared.reply.Reply.{Reply}
use Rattle.pcl_base.specs.declared.trace.Sent.{Sent}
use Rattle.pcl_base.specs.declared.trace.Halt.{Halt}
use Rattle.run_rules.specs.Disk.{Disk}
use Rattle.run_rules.specs.Views.{View}
use Rattle.node_rules.specs.NodeState.{NodeState, start_node}
use Rattle.node_rules.specs.DiskCalls.{Stop}
use Rattle.node_laws.specs.Nodes.{DiskFits}
use Rattle.cluster_rules.specs.Links.{Links}
use Rattle.cluster_rules.specs.Clusters.{Cluster, put_node, put_stop, lose, last_view, note_entry}
use Rattle.cluster_rules.specs.ClusterStep.{start_one, start_all, add_view}
use Rattle.cluster_laws.specs.Sound.{AreLinks, IsMember, IsCluster}
use Rattle.node_laws.proofs.Lists.{set_look, set_length}
use Rattle.cluster_laws.proofs.Linked.{links_cleared}

-- a further entry
pub noted : (e : Event) (rs : List Reply) (ss : List Sent) (h : Option Halt) (c : Cluster) → IsCluster c → IsCluster (note_entry e rs ss h c)
noted e rs ss h c i =
    record { limits = i.limits; views = i.views; nodes = i.nodes; members = i.members; links = i.links; disk = i.disk; stops = i.stops }

-- a node's state is another one
pub put_up : (n : ℕ) (s : NodeState) (c : Cluster) → IsMember c.config c.views n s → IsCluster c → IsCluster (put_node c n (Some s))
put_up n s c is i =
    record {
      limits = i.limits;
      views = i.views;
      nodes = set_length c.nodes n (Some s) ∙ i.nodes;
      members = λ j.
          set_look (λ (o : Option NodeState). IfSome o (IsMember c.config c.views j)) None c.nodes n j (Some s)
          (λ e. subst (λ (k : ℕ). IsMember c.config c.views k s) (sym e) is) (i.members j);
      links = i.links;
      disk = i.disk;
      stops = i.stops;
    }

-- a node is lost
pub lost : (n : ℕ) (c : Cluster) → IsCluster c → IsCluster (lose n c)
unfolding lose
lost n c i =
    record {
      limits = i.limits;
      views = i.views;
      nodes = set_length c.nodes n None ∙ i.nodes;
      members = λ j. set_look (λ (o : Option NodeState). IfSome o (IsMember c.config c.views j)) None c.nodes n j None (λ e. tt) (i.members j);
      links = links_cleared c.config (last_view c).epoch c.links n i.links;
      disk = i.disk;
      stops = set_length c.stops n None ∙ i.stops;
    }

-- another disk and other links
pub with_parts : (d : Disk) (ls : Links) (c : Cluster) → DiskFits c.config d → AreLinks c.config (last_view c).epoch ls → IsCluster c → IsCluster (record c { disk = d; links = ls })
with_parts d ls c fits are i =
    record { limits = i.limits; views = i.views; nodes = i.nodes; members = i.members; links = are; disk = fits; stops = i.stops }

-- another stop
pub with_stop : (n : ℕ) (s : Option Stop) (c : Cluster) → IsCluster c → IsCluster (put_stop c n s)
with_stop n s c i =
    record {
      limits = i.limits;
      views = i.views;
      nodes = i.nodes;
      members = i.members;
      links = i.links;
      disk = i.disk;
      stops = set_length c.stops n s ∙ i.stops;
    }

-- some nodes start before a further view
pub started : (e : ℕ) (v : View) (ns : List ℕ) (c : Cluster) → AllByRecursion (λ n. IsMember c.config (c.views ++ v ∷ []) n (start_node c.config n e)) ns
    → IsCluster (add_view v c) → IsCluster (add_view v (start_all e ns c))
started e v [] c all i = i
started e v (n ∷ ns) c all i = started e v ns (start_one e c n) all.1 (put_up n (start_node c.config n e) (add_view v c) all.0 i)
