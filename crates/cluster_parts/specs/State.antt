-- What contracts see of a cluster, and what holds of every cluster.
use Rattle.std.specs.Prelude.{◌≡◌, ℕ, ◌≤◌, ⊤, List, Option, None, map, slice_index_or}
use Rattle.std.specs.Option.{option_map}
use Rattle.pcl_base.specs.Limits.{Sizes}
use Rattle.pcl_base.specs.declared.event.Event.{Event}
use Rattle.pcl_base.specs.declared.event.Event.TheVariants.{Arm}
use Rattle.run_rules.specs.Disk.{Disk}
use Rattle.run_rules.specs.Views.{View}
use Rattle.disk_model.specs.declared.stop.Stop.{Stop}
use Rattle.disk_model.specs.Memory.{Disk as Storage, bytes_in}
use Rattle.node_rules.specs.NodeState.{NodeState}
use Rattle.node_rules.specs.DiskCalls.{Stop as RuleStop}
use Rattle.cluster_rules.specs.Clusters.{Cluster}
use Rattle.cluster_laws.specs.Sound.{IsCluster}
use Rattle.link_model.specs.Spares.{LinksView}
use Rattle.trace_model.specs.Seen.{TraceView}
use Rattle.home.specs.CallLaws.{rule_stop}

-- for each node its state, or none where it is down; the links with their room; the storage; the views
-- that were made; and the trace with its room
pub record ClusterView : Type 0 where
  pub config : Sizes
  pub nodes : List (Option NodeState)
  pub links : LinksView
  pub storage : Storage
  pub views : List View
  pub trace : TraceView

-- the disk of the rules, and the stops as they count them
abbrev pub disk_of : Storage → Disk
disk_of s = record { pages = s.pages; logs = bytes_in s.logs }

abbrev pub rule_stops : List (Option Stop) → List (Option RuleStop)
rule_stops stops = map (option_map rule_stop) stops

-- the cluster of the rules
abbrev pub cluster_of : ClusterView → Cluster
cluster_of v =
    record {
      config = v.config;
      nodes = v.nodes;
      links = v.links.links;
      disk = disk_of v.storage;
      stops = rule_stops v.storage.stops;
      views = v.views;
      trace = v.trace.entries;
    }

-- what a storage has beside the pages and logs of the rules: no reading call of it is armed to fail
abbrev pub ReadsWell : Storage → Type 0
ReadsWell s = (n : ℕ) → slice_index_or s.failing n None ≡ None

-- what holds of every cluster: what holds of the clusters of a run; its trace is of its sizes; and its
-- storage reads well
pub record AreParts (v : ClusterView) : Type 0 where
  pub cluster : IsCluster (cluster_of v)
  pub title : v.trace.config ≡ v.config
  pub reads : ReadsWell v.storage

-- the call of a stop is counted from 1
abbrev pub IsCounted : Event → Type 0
IsCounted (Arm node call kept) = 1 ≤ call
IsCounted _ = ⊤
