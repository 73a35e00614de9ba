-- The parts of an opening cluster, and the view that was made last.
use Rattle.std.proofs.Common.{◌≡◌, refl, ap, ◌∙◌, ℕ, zero, suc, ◌-◌, List, [], ◌∷◌, length, map, replicate, Option, Some, None, get_or, arith}
use Rattle.pcl_base.specs.Limits.{Sizes}
use Rattle.pcl_base.specs.declared.trace.Entry.{Entry}
use Rattle.run_rules.specs.Views.{View, count_from, first}
use Rattle.disk_model.specs.Memory.{Disk as Storage, LogDisk, no_log, opened}
use Rattle.node_rules.specs.NodeState.{NodeState, first_node}
use Rattle.node_rules.specs.DiskCalls.{Stop as RuleStop}
use Rattle.cluster_rules.specs.Links.{Links, empty_links}
use Rattle.cluster_rules.specs.Clusters.{Cluster, last_or, opening}
use Rattle.cluster_laws.specs.Sound.{AreViews}
use Rattle.cluster_parts.specs.State.{ClusterView, cluster_of, disk_of, rule_stops}

-- logs and stops of a storage that was opened
empty_logs : (n : ℕ) → map (λ (l : LogDisk). l.bytes) (replicate n no_log) ≡ replicate n []
empty_logs zero = refl
empty_logs (suc n) = ap (λ (l : List (List ℕ)). [] ∷ l) (empty_logs n)

none_armed : (n : ℕ) → rule_stops (replicate n None) ≡ replicate n None
none_armed zero = refl
none_armed (suc n) = ap (λ (l : List (Option RuleStop)). None ∷ l) (none_armed n)

-- a cluster by its fields
abbrev whole : Sizes → List (Option NodeState) → Links → Storage → List View → List Entry → Cluster
whole k ns ls s vs t = record { config = k; nodes = ns; links = ls; disk = disk_of s; stops = rule_stops s.stops; views = vs; trace = t }

pub opening_is : (v : ClusterView) (k : Sizes) → v.config ≡ k → v.nodes ≡ map (λ n. Some (first_node k n)) (count_from 0 k.nodes) → v.links.links ≡ empty_links k.nodes → v.storage ≡ opened k → v.views ≡ first k ∷ [] → v.trace.entries ≡ []
    → cluster_of v ≡ opening k
unfolding opening
opening_is v k config nodes links storage views trace =
    let ns : List (Option NodeState) = map (λ n. Some (first_node k n)) (count_from 0 k.nodes) in
    let ls : Links = empty_links k.nodes in
    ap (λ (x : Sizes). whole x v.nodes v.links.links v.storage v.views v.trace.entries) config
    ∙ ap (λ (x : List (Option NodeState)). whole k x v.links.links v.storage v.views v.trace.entries) nodes
    ∙ ap (λ (x : Links). whole k ns x v.storage v.views v.trace.entries) links
    ∙ ap (λ (x : Storage). whole k ns ls x v.views v.trace.entries) storage
    ∙ ap (λ (x : List View). whole k ns ls (opened k) x v.trace.entries) views
    ∙ ap (λ (x : List Entry). whole k ns ls (opened k) (first k ∷ []) x) trace
    ∙ ap (λ (x : List (List ℕ)). record (whole k ns ls (opened k) (first k ∷ []) []) { disk = record { pages = (opened k).pages; logs = x } }) (empty_logs k.nodes)
    ∙ ap (λ (x : List (Option RuleStop)). record (whole k ns ls (opened k) (first k ∷ []) []) { disk = record { pages = (opened k).pages; logs = replicate k.nodes [] }; stops = x }) (none_armed k.nodes)

-- the view that was made last stands last
last_at : (d v : View) (vs : List View) → get_or (v ∷ vs) (length vs) d ≡ last_or v vs
last_at d v [] = refl
last_at d v (w ∷ ws) = last_at d w ws

pub last_view_at : (c : Sizes) (d : View) (vs : List View) → AreViews c vs → get_or vs (length vs - 1) d ≡ last_or (first c) vs
last_view_at c d [] are = absurd are
last_view_at c d (v ∷ vs) are =
    let behind : length (v ∷ vs) - 1 ≡ length vs = omega arith in
    ap (λ (k : ℕ). get_or (v ∷ vs) k d) behind ∙ last_at d v vs
