-- What a node's step needs of a cluster.
use Rattle.std.proofs.Common.{◌≡◌, sym, subst, ◌∙◌, ℕ, ◌+◌, List, length, Option, Some}
use Rattle.std.specs.Prelude.{IfSome}
use Rattle.std.proofs.lemmas.List.{length-map}
use Rattle.std.proofs.lemmas.List.Elements.{All-from_recursion}
use Rattle.pcl_base.specs.Limits.{Sizes}
use Rattle.pcl_base.specs.declared.event.Event.{Event}
use Rattle.disk_model.specs.Disk.{HasSizes}
use Rattle.disk_model.specs.Memory.{LogDisk, bytes_in, rooms_in}
use Rattle.node_rules.specs.NodeState.{NodeState, NodeEvent}
use Rattle.cluster_rules.specs.Clusters.{Cluster, node_at}
use Rattle.cluster_laws.specs.Sound.{IsMember, IsCluster}
use Rattle.cluster_laws.proofs.Steps.{events_can_come_law}
use Rattle.cluster_parts.specs.State.{ClusterView, cluster_of}
use Rattle.cluster_parts.specs.Steps.{CanStep, IsReady, before_taking}

-- a node that is up is a member
pub member_at : (c : Cluster) (n : ℕ) (s : NodeState) → IsCluster c → node_at c n ≡ Some s → IsMember c.config c.views n s
member_at c n s i up = subst (λ (o : Option NodeState). IfSome o (IsMember c.config c.views n)) up (i.members n)

-- the storage of a cluster has its sizes
logs_long : (logs : List LogDisk) → length (rooms_in logs) ≡ length (bytes_in logs)
logs_long logs = length-map logs (λ (l : LogDisk). l.room) ∙ sym (length-map logs (λ (l : LogDisk). l.bytes))

pub sizes_are : (v : ClusterView) (n : ℕ) (ev : NodeEvent) → IsCluster (before_taking n ev (cluster_of v)) → HasSizes v.config (Some v.storage.pages) (Some (bytes_in v.storage.logs)) (Some (rooms_in v.storage.logs))
sizes_are v n ev i =
    record {
      pages_told = (i.disk.pages.0, All-from_recursion (λ (b : List ℕ). length b ≡ v.config.size + 16) v.storage.pages i.disk.pages.1);
      logs_told = i.disk.logs;
      rooms_told = logs_long v.storage.logs ∙ i.disk.logs;
    }

pub can_step : (v : ClusterView) (e : Event) (n : ℕ) (ev : NodeEvent) → IsReady v e n ev → CanStep v n ev
can_step v e n ev r =
    let c : Cluster = before_taking n ev (cluster_of v) in
    let is : IsMember v.config v.views n r.state = member_at c n r.state r.cluster r.handed.up in
    record {
      node = r.state;
      up = r.handed.up;
      number = is.number;
      can = events_can_come_law c e n r.state ev r.cluster r.handed;
      config = is.config;
      sizes = subst (λ (k : Sizes). HasSizes k (Some v.storage.pages) (Some (bytes_in v.storage.logs)) (Some (rooms_in v.storage.logs))) (sym is.config) (sizes_are v n ev r.cluster);
      reads = r.reads;
    }
