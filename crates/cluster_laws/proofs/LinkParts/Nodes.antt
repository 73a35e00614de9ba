-- What a step of a cluster does to a node.
use Rattle.std.proofs.Common.{◌≡◌, refl, ap, sym, subst, ◌∙◌, ℕ, ◌+◌, ◌≤◌, ◌&&◌, not, cond, Bool, true, false, List, [], ◌∷◌, Option, Some, None, is_some, arith}
use Rattle.std.specs.List.{AllByRecursion, filter, list_any}
use Rattle.pcl_base.specs.Limits.{Sizes}
use Rattle.pcl_base.specs.declared.event.Event.{Event}
use Rattle.run_rules.specs.Views.{View, is_live}
use Rattle.node_rules.specs.NodeState.{NodeState, NodeEvent, start_node}
use Rattle.node_rules.specs.DiskCalls.{Left}
use Rattle.node_rules.specs.Work.{Outcome, Goes, Differs}
use Rattle.node_rules.specs.NodeStep.{Plan, nodestep}
use Rattle.node_laws.proofs.Lists.{set_look}
use Rattle.rule_laws.proofs.Turns.{and_right, not_true}
use Rattle.cluster_rules.specs.Clusters.{Cluster, node_at, is_up, stop_at, lose, last_view}
use Rattle.cluster_rules.specs.ClusterStep.{links_after, made_or_halted, left_of, after_plan, node_step, start_one, start_all, all_nodes, returning}
use Rattle.cluster_laws.specs.Handed.{IsHanded}
use Rattle.cluster_laws.specs.Sound.{IsMember, IsCluster}
use Rattle.cluster_laws.proofs.Cases.{by_step}
use Rattle.cluster_laws.proofs.Lists.{none_first, all_counted}
use Rattle.cluster_laws.proofs.Steps.{up_is_member_law}
use Rattle.cluster_laws.specs.Era.Eras.{life_in}
use Rattle.cluster_laws.proofs.EraParts.Ages.{live_is}
use Rattle.cluster_laws.proofs.EraParts.Epochs.{low_of, last_view_is_there_law}
use Rattle.cluster_laws.proofs.EraParts.Lives.{stands, up_nodes_live_law}
use Rattle.cluster_laws.specs.Link.StepLaws.{IsPlanned, IsNodeStep, node_stays, node_acts, node_lost, node_starts, NodesStep}

-- a node that is up is live in the last view
up_live : (c : Cluster) (n : ℕ) (s : NodeState) → IsCluster c → node_at c n ≡ Some s → is_live (last_view c).live n ≡ true
up_live c n s i up =
    sym (live_is c (last_view c).epoch (last_view c) (last_view_is_there_law c i) n)
    ∙ (up_nodes_live_law c n s (last_view c).epoch i up (by s.view refl) (omega arith)).live
  where
    is : IsMember c.config c.views n s
    is = (up_is_member_law c n s i up).1

    by : (o : Option View) → s.view ≡ o → life_in s o ≤ (last_view c).epoch
    by None own = (low_of c (s.epoch + 1) (is.begins own).next i (is.begins own).there).1
    by (Some v) own =
        let at = stands c n s v is own in
        let born = at.born in
        let upto = at.upto in
        let epoch = at.epoch in
        let reached = is.reached in
        omega (arith, born, upto, epoch, reached)

-- a node that isn't live in the last view is down
down_if : (c : Cluster) (n : ℕ) → IsCluster c → is_live (last_view c).live n ≡ false → node_at c n ≡ None
down_if c n i off = by (node_at c n) refl
  where
    by : (o : Option NodeState) → node_at c n ≡ o → node_at c n ≡ None
    by None at = at
    by (Some s) at = let bad : true ≡ false = sym (up_live c n s i at) ∙ off in absurd (cc)

none_if : (c : Cluster) (n : ℕ) → is_up c n ≡ false → node_at c n ≡ None
none_if c n off = by (node_at c n) refl
  where
    by : (o : Option NodeState) → node_at c n ≡ o → node_at c n ≡ None
    by None at = at
    by (Some s) at = let bad : true ≡ false = sym (ap (λ (o : Option NodeState). is_some o) at) ∙ off in absurd (cc)

all_that : (P : ℕ → Type 0) (p : ℕ → Bool) → ((n : ℕ) → p n ≡ true → P n) → (ns : List ℕ) → AllByRecursion P (filter p ns)
all_that P p f [] = tt
all_that P p f (n ∷ ns) = by (p n) refl (all_that P p f ns)
  where
    by : (b : Bool) → p n ≡ b → AllByRecursion P (filter p ns) → AllByRecursion P (cond b (n ∷ filter p ns) (filter p ns))
    by true e rest = (f n e, rest)
    by false e rest = rest

-- the returning nodes of a view are down, and all are where none is up
returning_down : (c : Cluster) (v : View) → IsCluster c → AllByRecursion (λ n. node_at c n ≡ None) (returning (last_view c) v (all_nodes c))
returning_down c v i =
    all_that (λ n. node_at c n ≡ None) (λ n. is_live v.live n && not (is_live (last_view c).live n))
    (λ n test. down_if c n i (not_true (is_live (last_view c).live n) (and_right (is_live v.live n) (not (is_live (last_view c).live n)) test))) (all_nodes c)

all_down : (c : Cluster) → list_any (is_up c) (all_nodes c) ≡ false → AllByRecursion (λ n. node_at c n ≡ None) (all_nodes c)
all_down c down = all_counted (λ n. node_at c n ≡ None) c.config.nodes 0 (λ j low. none_if c (0 + j) (none_first (is_up c) c.config.nodes (0 + j) down (omega (arith, low))))

-- nodes that start
started_node : (c : Cluster) (e : Event) (n : ℕ) (ns : List ℕ) (d : Cluster) → d.config ≡ c.config → AllByRecursion (λ m. node_at c m ≡ None) ns → IsNodeStep c e n (node_at d n)
    → IsNodeStep c e n (node_at (start_all (last_view c).epoch ns d) n)
started_node c e n [] d sizes all old = old
started_node c e n (m ∷ ms) d sizes all old =
    started_node c e n ms (start_one (last_view c).epoch d m) sizes all.1
    (set_look (IsNodeStep c e n) None d.nodes m n (Some (start_node d.config m (last_view c).epoch))
    (λ at.
    node_starts
    (ap (λ (k : Sizes). Some (start_node k m (last_view c).epoch)) sizes ∙ ap (λ (k : ℕ). Some (start_node c.config k (last_view c).epoch)) (sym at))
    (ap (node_at c) at ∙ all.0)) old)

-- one that is lost
lost_node : (c d : Cluster) (e : Event) (m n : ℕ) → IsNodeStep c e n (node_at d n) → IsNodeStep c e n (node_at (lose m d) n)
unfolding lose
lost_node c d e m n old = set_look (IsNodeStep c e n) None d.nodes m n None (λ at. node_lost refl) old

stepped_node : (c : Cluster) (e : Event) (m : ℕ) (s : NodeState) (ev : NodeEvent) (n : ℕ) → IsHanded c e m s ev → IsNodeStep c e n (node_at (node_step e m s ev c) n)
unfolding node_step
stepped_node c e m s ev n h = by (nodestep s ev c.disk) refl
  where
    whole : (p : Plan) → IsPlanned c e m s ev p → (o : Option Left) → IsNodeStep c e n (node_at (made_or_halted e m p o c) n)
    whole p planned None =
        set_look (IsNodeStep c e n) None c.nodes m n (Some p.node)
        (λ at. node_acts s ev p (subst (λ (k : ℕ). IsPlanned c e k s ev p) (sym at) planned) refl) (node_stays refl)
    whole p planned (Some l) = lost_node c (record c { disk = l.disk; links = links_after e [] c.links }) e m n (node_stays refl)

    by : (o : Outcome Plan) → nodestep s ev c.disk ≡ o → IsNodeStep c e n (node_at (after_plan e m c o) n)
    by (Goes p) goes = whole p (record { handed = h; goes = goes }) (left_of m c.disk p.calls (stop_at c m))
    by (Differs p expected found) goes = lost_node c c e m n (node_stays refl)

pub nodes_step_law : NodesStep
nodes_step_law c e n i =
    by_step (λ d. IsNodeStep c e n (node_at d n)) c e
    (record {
      refused = λ r. node_stays refl;
      crashed = λ m is. lost_node c c e m n (node_stays refl);
      armed = λ m call stops is. node_stays refl;
      handed = λ m s ev h. stepped_node c e m s ev n h;
      viewed = λ live owners v made drops. started_node c e n (returning (last_view c) v (all_nodes c)) c refl (returning_down c v i) (node_stays refl);
      reopened = λ v made down. started_node c e n (all_nodes c) c refl (all_down c down) (node_stays refl);
    })
