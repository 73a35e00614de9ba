-- Nodes that start before a further view.
use Rattle.std.proofs.Common.{◌≡◌, refl, ap, sym, subst, ◌∙◌, ℕ, ◌+◌, ◌≤◌, ◌==◌, ◌&&◌, not, cond, Bool, true, false, List, [], ◌∷◌, ◌++◌, slice_index_or, slice_set, Option, Some, None, is_some, arith}
use Rattle.std.specs.List.{AllByRecursion, filter, list_any}
use Rattle.pcl_base.specs.Limits.{Sizes}
use Rattle.run_rules.specs.Views.{View, is_live}
use Rattle.node_rules.specs.NodeState.{NodeState, start_node}
use Rattle.node_rules.specs.Words.{pick}
use Rattle.node_laws.proofs.Lists.{set_look}
use Rattle.rule_laws.proofs.Turns.{and_right, not_true}
use Rattle.cluster_rules.specs.Clusters.{Cluster, node_at, is_up, last_view, view_of_epoch}
use Rattle.cluster_rules.specs.ClusterStep.{start_one, start_all, all_nodes, returning}
use Rattle.cluster_laws.specs.Sound.{IsMember, IsCluster}
use Rattle.cluster_laws.proofs.Lists.{none_first, all_counted}
use Rattle.cluster_laws.proofs.Steps.{up_is_member_law}
use Rattle.cluster_laws.specs.Era.Eras.{life_in}
use Rattle.cluster_laws.proofs.EraParts.Ages.{live_is}
use Rattle.cluster_laws.proofs.EraParts.Epochs.{low_of, last_view_is_there_law}
use Rattle.cluster_laws.proofs.EraParts.Lives.{stands, up_nodes_live_law}

-- ---- who starts was down

-- a node that is up is live in the last view
up_live : (c : Cluster) (n : ℕ) (s : NodeState) → IsCluster c → node_at c n ≡ Some s → is_live (last_view c).live n ≡ true
up_live c n s i up =
    sym (live_is c (last_view c).epoch (last_view c) (last_view_is_there_law c i) n)
    ∙ (up_nodes_live_law c n s (last_view c).epoch i up (by s.view refl) (omega arith)).live
  where
    is : IsMember c.config c.views n s
    is = (up_is_member_law c n s i up).1

    by : (o : Option View) → s.view ≡ o → life_in s o ≤ (last_view c).epoch
    by None own = (low_of c (s.epoch + 1) (is.begins own).next i (is.begins own).there).1
    by (Some v) own =
        let at = stands c n s v is own in
        let born = at.born in
        let upto = at.upto in
        let epoch = at.epoch in
        let reached = is.reached in
        omega (arith, born, upto, epoch, reached)

-- a node that isn't live in the last view is down
down_if : (c : Cluster) (n : ℕ) → IsCluster c → is_live (last_view c).live n ≡ false → node_at c n ≡ None
down_if c n i off = by (node_at c n) refl
  where
    by : (o : Option NodeState) → node_at c n ≡ o → node_at c n ≡ None
    by None at = at
    by (Some s) at = let bad : true ≡ false = sym (up_live c n s i at) ∙ off in absurd (cc)

none_if : (c : Cluster) (n : ℕ) → is_up c n ≡ false → node_at c n ≡ None
none_if c n off = by (node_at c n) refl
  where
    by : (o : Option NodeState) → node_at c n ≡ o → node_at c n ≡ None
    by None at = at
    by (Some s) at = let bad : true ≡ false = sym (ap (λ (o : Option NodeState). is_some o) at) ∙ off in absurd (cc)

all_that : (P : ℕ → Type 0) (p : ℕ → Bool) → ((n : ℕ) → p n ≡ true → P n) → (ns : List ℕ) → AllByRecursion P (filter p ns)
all_that P p f [] = tt
all_that P p f (n ∷ ns) = by (p n) refl (all_that P p f ns)
  where
    by : (b : Bool) → p n ≡ b → AllByRecursion P (filter p ns) → AllByRecursion P (cond b (n ∷ filter p ns) (filter p ns))
    by true e rest = (f n e, rest)
    by false e rest = rest

-- the returning nodes of a view are down, and all are where none is up
pub returning_down : (c : Cluster) (v : View) → IsCluster c → AllByRecursion (λ n. node_at c n ≡ None) (returning (last_view c) v (all_nodes c))
returning_down c v i =
    all_that (λ n. node_at c n ≡ None) (λ n. is_live v.live n && not (is_live (last_view c).live n))
    (λ n test. down_if c n i (not_true (is_live (last_view c).live n) (and_right (is_live v.live n) (not (is_live (last_view c).live n)) test))) (all_nodes c)

pub all_down : (c : Cluster) → list_any (is_up c) (all_nodes c) ≡ false → AllByRecursion (λ n. node_at c n ≡ None) (all_nodes c)
all_down c down = all_counted (λ n. node_at c n ≡ None) c.config.nodes 0 (λ j low. none_if c (0 + j) (none_first (is_up c) c.config.nodes (0 + j) down (omega (arith, low))))

-- ---- the nodes once some have started

abbrev pub started_nodes : Sizes → ℕ → List ℕ → List (Option NodeState) → List (Option NodeState)
started_nodes sizes k [] ss = ss
started_nodes sizes k (n ∷ ns) ss = started_nodes sizes k ns (slice_set ss n (Some (start_node sizes n k)))

pub starts_nodes : (k : ℕ) (ns : List ℕ) (c : Cluster) → start_all k ns c ≡ record c { nodes = started_nodes c.config k ns c.nodes }
starts_nodes k [] c = refl
starts_nodes k (n ∷ ns) c = starts_nodes k ns (start_one k c n)

-- a node stays as it was, or was down and starts
pub by_started : (P : Option NodeState → Type 0) (sizes : Sizes) (k : ℕ) (ns : List ℕ) (was ss : List (Option NodeState)) (m : ℕ) → AllByRecursion (λ n. slice_index_or was n None ≡ None) ns
    → (slice_index_or was m None ≡ None → P (Some (start_node sizes m k))) → P (slice_index_or ss m None) → P (slice_index_or (started_nodes sizes k ns ss) m None)
by_started P sizes k [] was ss m down starts stays = stays
by_started P sizes k (n ∷ ns) was ss m down starts stays =
    by_started P sizes k ns was (slice_set ss n (Some (start_node sizes n k))) m down.1 starts
    (set_look P None ss n m (Some (start_node sizes n k))
    (λ at. subst (λ (j : ℕ). P (Some (start_node sizes j k))) at (starts (ap (λ (j : ℕ). slice_index_or was j None) at ∙ down.0))) stays)

-- ---- the views before a further one

pub push_before : (vs : List View) (x : View) (e : ℕ) → (x.epoch == e) ≡ false → view_of_epoch (vs ++ x ∷ []) e ≡ view_of_epoch vs e
unfolding view_of_epoch
push_before [] x e other = ap (λ (b : Bool). (let o : Option View = pick b (Some x) None in o)) other
push_before (v ∷ vs) x e other = ap (λ (o : Option View). pick (v.epoch == e) (Some v) o) (push_before vs x e other)
