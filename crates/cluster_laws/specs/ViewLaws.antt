-- The views of a cluster in a run.
use Rattle.std.specs.Prelude.{◌≡◌, ℕ, ◌+◌, ◌^◌, ◌<◌, ◌≤◌, length, Some, None}
use Rattle.std.specs.List.{slice_get}
use Rattle.pcl_base.specs.Limits.{Sizes}
use Rattle.run_rules.specs.Views.{View}
use Rattle.node_rules.specs.NodeState.{NodeState, Install}
use Rattle.node_rules.specs.Refusals.{refusal}
use Rattle.rule_laws.specs.LaterViews.{IsWhole}
use Rattle.cluster_rules.specs.Clusters.{Cluster, node_at, view_of_epoch, last_view}
use Rattle.cluster_laws.specs.Sound.{IsCluster}

-- a whole view of an epoch, which is counted from 1 and has four bytes
pub record IsViewAt (c : Sizes) (e : ℕ) (v : View) : Type 0 where
  pub whole : IsWhole c v
  pub epoch : v.epoch ≡ e
  pub low : 1 ≤ e
  pub high : e < 2 ^ 32

-- the view that was made last
abbrev pub LastViewIsWhole : Type 0
LastViewIsWhole = (c : Cluster) → IsCluster c → IsViewAt c.config (last_view c).epoch (last_view c)

-- the view of any epoch, which isn't above the last one
abbrev pub ViewsAreWhole : Type 0
ViewsAreWhole =
    (c : Cluster) (e : ℕ) (v : View) → IsCluster c → view_of_epoch c.views e ≡ Some v
    → IsViewAt c.config e v × (e ≤ (last_view c).epoch)

-- views stand at the places of their epochs, and there are as many as the last epoch
abbrev pub ViewsAreNumbered : Type 0
ViewsAreNumbered =
    (c : Cluster) → IsCluster c
    → (length c.views ≡ (last_view c).epoch) × ((e : ℕ) → view_of_epoch c.views (e + 1) ≡ slice_get c.views e)

-- a node that is up isn't refused the view after its own
abbrev pub NoViewIsRefused : Type 0
NoViewIsRefused =
    (c : Cluster) (n : ℕ) (s : NodeState) (v : View) → IsCluster c → node_at c n ≡ Some s
    → view_of_epoch c.views (s.epoch + 1) ≡ Some v → refusal s (Install v) ≡ None
