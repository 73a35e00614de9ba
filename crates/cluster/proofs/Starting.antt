-- Nodes that start change the nodes of a cluster alone.
use Rattle.std.proofs.Common.{◌≡◌, refl, ap, sym, ◌∙◌, ℕ, suc, zero, ◌+◌, ◌<◌, ◌≤◌, List, [], ◌∷◌, length, map, drop, drop-cons, get_or, Option, Some, None, slice_set, arith}
use Rattle.std.proofs.Math.ListN.{drop_of_length-le}
use Rattle.node_rules.specs.NodeState.{NodeState, start_node}
use Rattle.cluster_rules.specs.Clusters.{Cluster}
use Rattle.cluster_rules.specs.ClusterStep.{start_all, start_one}
use Rattle.cluster.specs.Starts.{with_started}

pub started_is : (epoch : ℕ) (ns : List ℕ) (c : Cluster) → record c { nodes = with_started c.nodes ns (map (λ n. Some (start_node c.config n epoch)) ns) } ≡ start_all epoch ns c
unfolding with_started
started_is epoch [] c = refl
started_is epoch (n ∷ ns) c = started_is epoch ns (start_one epoch c n)

-- one node takes its place
pub put_next : (nodes : List (Option NodeState)) (ns rest : List ℕ) (ss more : List (Option NodeState)) (n : ℕ) (s : Option NodeState) → ns ≡ n ∷ rest → ss ≡ s ∷ more
    → with_started nodes ns ss ≡ with_started (slice_set nodes n s) rest more
unfolding with_started
put_next nodes ns rest ss more n s front first =
    ap (λ (l : List ℕ). with_started nodes l ss) front ∙ ap (λ (l : List (Option NodeState)). with_started nodes (n ∷ rest) l) first

pub put_done : (nodes : List (Option NodeState)) (ns : List ℕ) (ss : List (Option NodeState)) (i : ℕ) → length ns ≤ i → with_started nodes (drop i ns) ss ≡ nodes
unfolding with_started
put_done nodes ns ss i past = ap (λ (l : List ℕ). with_started nodes l ss) (drop_of_length-le ns past)

-- a place that was emptied is behind
pub drop_set : {X : Type 0} (xs : List X) (i : ℕ) (y : X) → drop (suc i) (slice_set xs i y) ≡ drop (suc i) xs
drop_set [] i y = refl
drop_set (x ∷ xs) zero y = refl
drop_set (x ∷ xs) (suc i) y = drop_set xs i y

-- the node of one place is put at its number
pub put_step : (nodes : List (Option NodeState)) (ns : List ℕ) (ss : List (Option NodeState)) (i : ℕ) (s : Option NodeState) → i < length ns → i < length ss → s ≡ get_or ss i s
    → with_started (slice_set nodes (get_or ns i 0) s) (drop (i + 1) ns) (drop (i + 1) (slice_set ss i None)) ≡ with_started nodes (drop i ns) (drop i ss)
put_step nodes ns ss i s low in_list at =
    let next : i + 1 ≡ suc i = omega arith in
    let now : List (Option NodeState) = slice_set nodes (get_or ns i 0) s in
    ap (λ (k : ℕ). with_started now (drop k ns) (drop k (slice_set ss i None))) next
    ∙ ap (λ (l : List (Option NodeState)). with_started now (drop (suc i) ns) l) (drop_set ss i None)
    ∙ sym (put_next nodes (drop i ns) (drop (suc i) ns) (drop i ss) (drop (suc i) ss) (get_or ns i 0) s (drop-cons ns i 0 low)
    (drop-cons ss i s in_list ∙ ap (λ (x : Option NodeState). x ∷ drop (suc i) ss) (sym at)))
