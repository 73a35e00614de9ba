-- A cluster as if the step of a node had ended with the work so far.
use Rattle.std.specs.Prelude.{◌≡◌, ℕ, ◌<◌, ◌==◌, ◌&&◌, false, List, [], ◌++◌, map, Some}
use Rattle.pcl_base.specs.declared.event.Event.{Event}
use Rattle.pcl_base.specs.declared.trace.Entry.{Entry}
use Rattle.run_rules.specs.Disk.{Disk}
use Rattle.node_rules.specs.DiskCalls.{all_done}
use Rattle.node_rules.specs.NodeStep.{plan_of}
use Rattle.node_rules.specs.Words.{pick}
use Rattle.node_rules.specs.Work.{Work}
use Rattle.cluster_rules.specs.Clusters.{Cluster, node_at, is_up, sent_by}
use Rattle.cluster_rules.specs.ClusterStep.{links_after, made}
use Rattle.cluster_rules.specs.Links.{link_at}
use Rattle.cluster_laws.specs.Sound.{IsCluster}
use Rattle.cluster_laws.specs.Link.Coming.{sent_to}
use Rattle.page_laws.specs.Moment.Looks.{with_entry}

-- the cluster as if the step of node n on an event had ended with this work
unfoldable pub land : Cluster → Event → ℕ → Work → Cluster
land c e n w = made e n (plan_of w) c

-- the trace then, and the disk
abbrev pub trace_of : Cluster → Event → ℕ → Work → List Entry
trace_of c e n w = with_entry c.trace e w.replies (map (sent_by n) w.sends)

-- the disk once the calls of the work are done
abbrev pub disk_of : Cluster → ℕ → Work → Disk
disk_of c n w = all_done n c.disk w.calls

-- node n of a cluster of a run makes a step
pub record Acts (c : Cluster) (n : ℕ) : Type 0 where
  pub cluster : IsCluster c
  pub known : n < c.config.nodes

-- What is seen of it: sizes and views stay; the node has the state of the work, and the others theirs; the entry of
-- the step stands last in the trace; and what was sent stands on the links, whose head was taken if it is.
pub record IsLanded (c : Cluster) (e : Event) (n : ℕ) (w : Work) : Type 0 where
  pub config : (land c e n w).config ≡ c.config
  pub views : (land c e n w).views ≡ c.views
  pub disk : (land c e n w).disk ≡ disk_of c n w
  pub trace : (land c e n w).trace ≡ trace_of c e n w
  pub node : node_at (land c e n w) n ≡ Some w.node
  pub others : (m : ℕ) → (m == n) ≡ false → node_at (land c e n w) m ≡ node_at c m
  pub links : (a b : ℕ)
      → link_at (land c e n w).links a b ≡ link_at (links_after e w.replies c.links) a b ++ pick (a == n && is_up c b) (sent_to b w.sends) []

abbrev pub LandingIsSeen : Type 0
LandingIsSeen = (c : Cluster) (e : Event) (n : ℕ) (w : Work) → Acts c n → IsLanded c e n w
