-- What is known of a message that counts.
use Rattle.std.specs.Prelude.{◌≡◌, ℕ, ◌<◌, ◌≤◌, true, false, Some, None}
use Rattle.pcl_base.specs.Limits.{Sizes}
use Rattle.pcl_base.specs.declared.event.Event.{Event}
use Rattle.run_rules.specs.Views.{View, owner_of, since_of, born_of}
use Rattle.rule_laws.specs.LaterViews.{IsWhole, IsLater}
use Rattle.node_rules.specs.NodeState.{NodeState, number_of, start_node}
use Rattle.cluster_rules.specs.Clusters.{Cluster, node_at, view_of_epoch, last_view}
use Rattle.cluster_rules.specs.ClusterStep.{step}
use Rattle.cluster_laws.specs.Epochs.{StaysInView}
use Rattle.cluster_laws.specs.Sound.{IsCluster}
use Rattle.cluster_laws.specs.Era.Eras.{era_at, owner_at, life_of}
use Rattle.cluster_laws.specs.Era.Counts.{counts_at, counts_in}
use Rattle.cluster_laws.specs.Era.EraLaws.{Lives}

-- At its receiver's view a message's epoch is of the era that its partition has there, with the same owner,
-- and sender and receiver lived their lives of that view then.
pub record IsOfView (c : Cluster) (v : View) (me from q epoch : ℕ) : Type 0 where
  pub era : era_at c q epoch ≡ since_of v q
  pub owner : owner_at c q epoch ≡ owner_of v q
  pub sender : Lives c from (born_of v from) epoch
  pub receiver : Lives c me (born_of v me) epoch

-- a message that counts and isn't held
abbrev pub CountingIsOfView : Type 0
CountingIsOfView =
    (c : Cluster) (b : ℕ) (s : NodeState) (v : View) (from q epoch : ℕ) → IsCluster c → node_at c b ≡ Some s → s.view ≡ Some v
    → counts_at s (Some v) from q epoch ≡ true → epoch ≤ v.epoch → IsOfView c v b from q epoch

-- each message that counts is of its receiver's life
abbrev pub CountingIsOfLife : Type 0
CountingIsOfLife =
    (c : Cluster) (b : ℕ) (s : NodeState) (from q epoch : ℕ) → IsCluster c → node_at c b ≡ Some s → epoch ≤ (last_view c).epoch
    → counts_in (Some s) from q epoch ≡ true → Lives c b (life_of s) epoch

-- a message that counts at a view counted at each earlier one
abbrev pub CountedBefore : Type 0
CountedBefore =
    (c : Sizes) (s : NodeState) (v w : View) (from q epoch : ℕ) → IsWhole c v → IsLater c v w → counts_at s (Some w) from q epoch ≡ true
    → counts_at s (Some v) from q epoch ≡ true

-- and before the first one
abbrev pub CountedUnborn : Type 0
CountedUnborn =
    (c : Cluster) (b : ℕ) (s : NodeState) (w : View) (e from q epoch : ℕ) → IsCluster c → node_at c b ≡ Some s → s.view ≡ None
    → view_of_epoch c.views e ≡ Some w → s.epoch < e → counts_at s (Some w) from q epoch ≡ true → counts_at s None from q epoch ≡ true

-- a node of the same number, epoch and view counts the same
abbrev pub CountsStay : Type 0
CountsStay =
    (s m : NodeState) (from q epoch : ℕ) → number_of m ≡ number_of s → StaysInView s m
    → counts_in (Some m) from q epoch ≡ counts_in (Some s) from q epoch

-- a node that starts counts nothing that was sent before
abbrev pub NothingCountsAtStart : Type 0
NothingCountsAtStart =
    (c : Sizes) (n e from q epoch : ℕ) → epoch ≤ e → counts_in (Some (start_node c n e)) from q epoch ≡ false

-- so through a step on any event no message of an epoch up to the last one comes to count
abbrev pub StepsCountLess : Type 0
StepsCountLess =
    (c : Cluster) (e : Event) (b from q epoch : ℕ) → IsCluster c → epoch ≤ (last_view c).epoch
    → counts_in (node_at (step c e) b) from q epoch ≡ true → counts_in (node_at c b) from q epoch ≡ true
