-- Who waits for a page in a related cluster has its home in the era of the table, or in a later one.
use Rattle.std.proofs.Common.{◌≡◌, refl, sym, ap, subst, ◌∙◌, ℕ, ◌<◌, ◌≤◌, Option, Some, None}
use Rattle.std.specs.Prelude.{IfSome}
use Rattle.std.proofs.lemmas.Nat.{mod_below}
use Rattle.pcl_base.specs.Limits.{Sizes}
use Rattle.pcl_base.specs.declared.lock.Waiter.{Waiter}
use Rattle.run_rules.specs.Views.{View}
use Rattle.node_rules.specs.LockTable.{LockTable, entry_at}
use Rattle.node_rules.specs.NodeState.{NodeState, partition}
use Rattle.node_laws.proofs.Lists.{all_weaker}
use Rattle.cluster_rules.specs.Clusters.{Cluster, node_at}
use Rattle.cluster_laws.specs.Sound.{IsMember, IsCluster}
use Rattle.cluster_laws.proofs.Steps.{up_is_member_law}
use Rattle.cluster_laws.specs.Era.Eras.{era_in, era_at}
use Rattle.cluster_laws.proofs.EraParts.Lives.{members_know_eras_law}
use Rattle.page_relation.specs.Tables.{ReachedBy, ReachedIn}
use Rattle.related_runs.proofs.Waiters.{TableWaits, at_waits}
use Rattle.cluster_facts.specs.Waiting.Reached.{HasReached, TablesReached, HomeReached, WaitersHaveReached}

module _ (c : Cluster) (i : IsCluster c) (q era : ℕ) where
  -- what a node that is up in a view has reached is the era of its epoch
  same_reached : (reached : ℕ → ℕ) (now n : ℕ) (o : Option NodeState) → node_at c n ≡ o → ReachedIn c q now o (reached n) → IfSome o (λ (r : NodeState). era ≤ era_at c q r.epoch) → HomeReached reached era n o
  same_reached reached now n None up is low = tt
  same_reached reached now n (Some r) up is low = by r.view refl is
    where
      by : (o : Option View) → r.view ≡ o → ReachedBy c q now r o (reached n) → IfSome o (λ (u : View). era ≤ reached n)
      by None at k = tt
      by (Some u) at k =
          subst (λ (x : ℕ). era ≤ x) ((members_know_eras_law c n r u (up_is_member_law c n r i up).1 at).eras q ∙ sym k.0) low

pub waiters_have_reached_law : WaitersHaveReached
waiters_have_reached_law c p a n s t i reached page up there =
    all_weaker (λ (w : Waiter). HasReached c s.view (partition c.config p) w.tx) (λ (w : Waiter). HomeReached a.reached (era_in s.view (partition c.config p)) w.tx.node (node_at c w.tx.node))
    (λ w is.
    same_reached c i (partition c.config p) (era_in s.view (partition c.config p)) a.reached a.era w.tx.node (node_at c w.tx.node) refl (page.nodes.eras w.tx.node) is)
    (entry_at t p).waiting
    (at_waits (HasReached c s.view (partition c.config p)) t p waits)
  where
    member : IsMember c.config c.views n s
    member = (up_is_member_law c n s i up).1

    tables : TablesReached c s
    tables = subst (λ (o : Option NodeState). IfSome o (TablesReached c)) up (reached n)

    same : partition s.home.config p ≡ partition c.config p
    same = ap (λ (k : Sizes). partition k p) member.config

    low : partition s.home.config p < s.home.config.nodes
    low = mod_below p s.home.config.nodes member.sound.limits.some_nodes

    waits : TableWaits (HasReached c s.view (partition c.config p)) t
    waits =
        subst (λ (k : ℕ). TableWaits (HasReached c s.view k) t) same
        (subst (λ (o : Option LockTable). IfSome o (TableWaits (HasReached c s.view (partition s.home.config p)))) there (tables (partition s.home.config p) low))
