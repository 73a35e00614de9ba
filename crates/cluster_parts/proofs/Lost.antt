-- A node that is lost after its step, whatever this came to.
use Rattle.std.proofs.Common.{◌≡◌, refl, ap, sym, subst, ◌∙◌, ℕ, zero, suc, ◌+◌, ◌<◌, List, [], ◌∷◌, length, map, Option, Some, None, option_map, slice_set, arith}
use Rattle.std.proofs.lemmas.List.{length-map}
use Rattle.std.proofs.lemmas.List.Elements.{recursion_from_All}
use Rattle.pcl_base.specs.Limits.{Sizes}
use Rattle.pcl_base.specs.declared.event.Event.{Event}
use Rattle.pcl_base.specs.declared.message.Message.{Message}
use Rattle.disk_model.specs.declared.stop.Stop.{Stop}
use Rattle.disk_model.specs.Disk.{HasSizes}
use Rattle.disk_model.specs.Memory.{Disk as Storage, LogDisk, bytes_in, rooms_in}
use Rattle.node_rules.specs.NodeState.{NodeState, NodeEvent}
use Rattle.node_rules.specs.NodeState as node
use Rattle.node_laws.specs.Nodes.{DiskFits}
use Rattle.cluster_rules.specs.Links.{Links, link_at, put_link, clear_into}
use Rattle.cluster_rules.specs.Clusters.{Cluster, lose}
use Rattle.cluster_laws.specs.Sound.{IsCluster}
use Rattle.cluster_laws.proofs.Changes.{lost}
use Rattle.home.specs.CallLaws.{rule_stop}
use Rattle.step_ends.specs.Ran.{OthersStayArmed}
use Rattle.step_ends.proofs.Armed.{put_twice}
use Rattle.node_laws.proofs.Lists.{set_length}
use Rattle.cluster_parts.specs.State.{ClusterView, cluster_of, disk_of, rule_stops}
use Rattle.cluster_parts.specs.Laws.{LostNodesLeaveClusters}
use Rattle.cluster_parts.specs.Steps.{IsReady, StaysBeside, before_taking, with_head}
use Rattle.cluster_parts.proofs.Room.{up_below}

-- links into a node are cleared, whatever stood on one of them
cleared_put : (ls : Links) (a b : ℕ) (ms : List Message) → clear_into (put_link ls a b ms) b ≡ clear_into ls b
unfolding clear_into put_link
cleared_put [] a b ms = refl
cleared_put (r ∷ ls) zero b ms = ap (λ (x : List (List Message)). x ∷ map (λ (row : List (List Message)). slice_set row b []) ls) (put_twice r b ms [])
cleared_put (r ∷ ls) (suc a) b ms = ap (λ (l : Links). slice_set r b [] ∷ l) (cleared_put ls a b ms)

head_cleared : (n : ℕ) (ev : NodeEvent) (ls : Links) → clear_into (with_head n ev ls) n ≡ clear_into ls n
head_cleared n node.Begin ls = refl
head_cleared n (node.Read t p) ls = refl
head_cleared n (node.Write t p place bytes) ls = refl
head_cleared n (node.Commit t) ls = refl
head_cleared n (node.Abort t) ls = refl
head_cleared n (node.Deliver from m) ls = cleared_put ls from n (m ∷ link_at ls from n)
head_cleared n (node.Evict p) ls = refl
head_cleared n (node.Flush p) ls = refl
head_cleared n (node.Install v) ls = refl
head_cleared n node.Cut ls = refl

-- a disk and stops as a step left them
abbrev left_with : Cluster → Storage → Cluster
left_with c st = record c { disk = disk_of st; stops = rule_stops st.stops }

left_is_cluster : (c : Cluster) (st : Storage) → DiskFits c.config (disk_of st) → length (rule_stops st.stops) ≡ c.config.nodes → IsCluster c → IsCluster (left_with c st)
left_is_cluster c st fits stops i =
    record { limits = i.limits; views = i.views; nodes = i.nodes; members = i.members; links = i.links; disk = fits; stops = stops }

same_lost : (v w : ClusterView) (n : ℕ) (ev : NodeEvent) → (s : StaysBeside n v w) → lose n (left_with (before_taking n ev (cluster_of v)) s.storage) ≡ lose n (cluster_of w)
unfolding lose
same_lost v w n ev s =
    ap (λ (ls : Links). record (left_with (cluster_of v) s.storage) { nodes = slice_set v.nodes n None; links = ls; stops = slice_set (rule_stops s.storage.stops) n None }) (head_cleared n ev v.links.links)
    ∙ ap (λ (ns : List (Option NodeState)). record (left_with (cluster_of v) s.storage) { nodes = ns; links = clear_into v.links.links n; stops = slice_set (rule_stops s.storage.stops) n None }) (sym (put_twice v.nodes n s.node None))
    ∙ ap (λ (x : ClusterView). lose n (cluster_of x)) (sym s.same)

-- the cluster without the node is one
pub lost_nodes_leave_clusters_law : LostNodesLeaveClusters
lost_nodes_leave_clusters_law v w e n ev r s =
    let c : Cluster = before_taking n ev (cluster_of v) in
    let stops : length (rule_stops s.storage.stops) ≡ v.config.nodes =
    length-map s.storage.stops (option_map rule_stop) ∙ s.stops ∙ sym (length-map v.storage.stops (option_map rule_stop)) ∙ r.cluster.stops in
    subst IsCluster (same_lost v w n ev s) (lost n (left_with c s.storage) (left_is_cluster c s.storage s.disk stops r.cluster))

-- its number is one of the nodes, and there is a log for it
pub below_nodes : (v w : ClusterView) (e : Event) (n : ℕ) (ev : NodeEvent) → IsReady v e n ev → StaysBeside n v w → n < length w.nodes
below_nodes v w e n ev r s =
    subst (λ (k : ℕ). n < k) (sym (ap (λ (x : ClusterView). length x.nodes) s.same ∙ set_length v.nodes n s.node)) (up_below v.nodes n r.state r.handed.up)

pub below_logs : (v w : ClusterView) (e : Event) (n : ℕ) (ev : NodeEvent) → IsReady v e n ev → StaysBeside n v w → n < length w.storage.logs
below_logs v w e n ev r s =
    let low : n < v.config.nodes = subst (λ (k : ℕ). n < k) r.cluster.nodes (up_below v.nodes n r.state r.handed.up) in
    let logs : length w.storage.logs ≡ v.config.nodes = ap (λ (x : ClusterView). length x.storage.logs) s.same ∙ sym (length-map s.storage.logs (λ (l : LogDisk). l.bytes)) ∙ s.disk.logs in
    omega (arith, low, logs)

-- a storage with its sizes has the pages and logs of the cluster
pub fits_by : (k c : Sizes) (st : Storage) → k ≡ c → HasSizes k (Some st.pages) (Some (bytes_in st.logs)) (Some (rooms_in st.logs)) → DiskFits c (disk_of st)
fits_by k c st same h =
    subst (λ (z : Sizes). DiskFits z (disk_of st)) same
    (record { pages = (h.pages_told.0, recursion_from_All (λ (b : List ℕ). length b ≡ k.size + 16) st.pages h.pages_told.1); logs = h.logs_told })

-- of the stops only that of the node has changed, so there are as many
pub stops_long : (n : ℕ) (old new : List (Option Stop)) → OthersStayArmed n (Some old) (Some new) → length new ≡ length old
stops_long n old new others =
    let x = others old refl in
    let same : Some new ≡ Some (slice_set old n x.0) = x.1 in
    let is : new ≡ slice_set old n x.0 = cc in
    ap (λ (l : List (Option Stop)). length l) is ∙ set_length old n x.0
