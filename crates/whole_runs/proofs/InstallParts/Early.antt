-- Rights of nodes in no view, and who waits at tables.
use Rattle.std.proofs.Common.{◌≡◌, ap, sym, subst, ◌∙◌, ℕ, ◌<◌, ◌≤◌, List, Option, Some}
use Rattle.std.specs.Prelude.{IfSome}
use Rattle.std.proofs.lemmas.Nat.{mod_below}
use Rattle.pcl_base.specs.Limits.{Sizes}
use Rattle.pcl_base.specs.declared.lock.Waiter.{Waiter}
use Rattle.node_rules.specs.LockTable.{LockTable, entry_at}
use Rattle.node_rules.specs.NodeState.{NodeState, partition, table_at}
use Rattle.node_rules.specs.Shelf as shelf
use Rattle.node_rules.specs.Shelf.{right_on}
use Rattle.node_laws.proofs.Lists.{all_weaker}
use Rattle.cluster_rules.specs.Clusters.{Cluster, node_at}
use Rattle.cluster_laws.specs.Sound.{IsCluster, IsMember}
use Rattle.cluster_laws.proofs.Steps.{up_is_member_law}
use Rattle.cluster_laws.specs.Era.Eras.{era_at, era_in}
use Rattle.page_laws.specs.Look.Ends.{version_of_right}
use Rattle.related_runs.proofs.Waiters.{TableWaits, at_waits}
use Rattle.cluster_facts.specs.Waiting.Reached.{HasReached, HaveReached, TablesReached}
use Rattle.whole_runs.specs.Install.Turns.{UnviewedAreQuiet, WaitersAreHeard}
use Rattle.cluster_facts.specs.Reports.Unviewed.{NoRightUnviewed}

pub unviewed_are_quiet_law : UnviewedAreQuiet
unfolding right_on
unviewed_are_quiet_law c p none m s up view = ap (λ (rs : List shelf.Right). version_of_right (right_on rs p)) (empty view)
  where
    empty : NoRightUnviewed s
    empty = subst (λ (o : Option NodeState). IfSome o NoRightUnviewed) up (none m)

-- the partition of a page is one of the cluster's
pub partition_inside : (c : Cluster) (p : ℕ) → IsCluster c → partition c.config p < c.config.nodes
partition_inside c p i = mod_below p c.config.nodes i.limits.some_nodes

module _ (c : Cluster) (n p : ℕ) (s : NodeState) (i : IsCluster c) (reached : HaveReached c) (up : node_at c n ≡ Some s) where
  abbrev q : ℕ
  q = partition c.config p

  heard_at : (m : ℕ) (x : NodeState) (t : LockTable) → node_at c m ≡ Some x → table_at x q ≡ Some t
      → (entries : TableWaits (HasReached c x.view q) t) → (y : Waiter) → HasReached c x.view q y.tx → y.tx.node ≡ n → era_in x.view q ≤ era_at c q s.epoch
  heard_at m x t there table entries y is own =
      subst (λ (o : Option NodeState). IfSome o (λ (r : NodeState). era_in x.view q ≤ era_at c q r.epoch)) (ap (node_at c) own ∙ up) is

  waits : (m : ℕ) (x : NodeState) (t : LockTable) → node_at c m ≡ Some x → table_at x q ≡ Some t → TableWaits (HasReached c x.view q) t
  waits m x t there table =
      subst (λ (o : Option LockTable). IfSome o (TableWaits (HasReached c x.view q))) table
      (tables q (subst (λ (k : Sizes). q < k.nodes) (sym member.config) (partition_inside c p i)))
    where
      member : IsMember c.config c.views m x
      member = (up_is_member_law c m x i there).1

      tables : TablesReached c x
      tables = subst (λ (o : Option NodeState). IfSome o (TablesReached c)) there (reached m)

pub waiters_are_heard_law : WaitersAreHeard
waiters_are_heard_law c n p s i reached up m x t there table =
    let all = waits c n p s i reached up m x t there table in
    all_weaker (λ (y : Waiter). HasReached c x.view (partition c.config p) y.tx) (λ (y : Waiter). y.tx.node ≡ n → era_in x.view (partition c.config p) ≤ era_at c (partition c.config p) s.epoch)
    (λ y is own. heard_at c n p s i reached up m x t there table all y is own) (entry_at t p).waiting (at_waits (HasReached c x.view (partition c.config p)) t p all)
