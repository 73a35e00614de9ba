-- What the views of a cluster in a run keep with the epochs.
use Rattle.std.specs.Prelude.{◌≡◌, ◌⊎◌, ℕ, ◌+◌, ◌<◌, ◌≤◌, true, Some, None}
use Rattle.pcl_base.specs.Limits.{Sizes}
use Rattle.pcl_base.specs.declared.event.Event.{Event}
use Rattle.run_rules.specs.Views.{View, is_live, owner_of, since_of, born_of}
use Rattle.rule_laws.specs.LaterViews.{IsWhole, IsNext, IsLater}
use Rattle.node_rules.specs.NodeState.{NodeState}
use Rattle.cluster_rules.specs.Clusters.{Cluster, node_at, view_of_epoch, last_view}
use Rattle.cluster_rules.specs.ClusterStep.{step}
use Rattle.cluster_laws.specs.Sound.{IsMember, IsCluster}
use Rattle.cluster_laws.specs.Era.Eras.{era_at, owner_at, born_at, live_at, life_of}

-- the view of an epoch
pub record HasView (c : Cluster) (e : ℕ) : Type 0 where
  pub view : View
  pub there : view_of_epoch c.views e ≡ Some view
  pub epoch : view.epoch ≡ e
  pub whole : IsWhole c.config view

-- each epoch up to the last one has its view
abbrev pub EpochsHaveViews : Type 0
EpochsHaveViews = (c : Cluster) (e : ℕ) → IsCluster c → 1 ≤ e → e ≤ (last_view c).epoch → HasView c e

-- that of the last one is the view that was made last
abbrev pub LastViewIsThere : Type 0
LastViewIsThere = (c : Cluster) → IsCluster c → view_of_epoch c.views (last_view c).epoch ≡ Some (last_view c)

-- and no further one has
abbrev pub NoFurtherViews : Type 0
NoFurtherViews =
    (c : Cluster) (e : ℕ) → IsCluster c → (e ≡ 0) ⊎ ((last_view c).epoch < e) → view_of_epoch c.views e ≡ None

-- a step leaves the views that were made
pub record AreKept (c d : Cluster) : Type 0 where
  pub last : (last_view c).epoch ≤ (last_view d).epoch
  pub made : (e : ℕ) → e ≤ (last_view c).epoch → view_of_epoch d.views e ≡ view_of_epoch c.views e

abbrev pub StepsKeepMade : Type 0
StepsKeepMade = (c : Cluster) (e : Event) → IsCluster c → AreKept c (step c e)

-- so eras, owners, births and lives up to the last epoch are the same after it
pub record AreSameAt (c d : Cluster) (e : ℕ) : Type 0 where
  pub eras : (q : ℕ) → era_at d q e ≡ era_at c q e
  pub owners : (q : ℕ) → owner_at d q e ≡ owner_at c q e
  pub births : (n : ℕ) → born_at d n e ≡ born_at c n e
  pub lives : (n : ℕ) → live_at d n e ≡ live_at c n e

abbrev pub StepsKeepEras : Type 0
StepsKeepEras = (c : Cluster) (e : Event) (k : ℕ) → IsCluster c → k ≤ (last_view c).epoch → AreSameAt c (step c e) k

-- the view of a later epoch comes after that of an earlier one
abbrev pub LaterEpochs : Type 0
LaterEpochs =
    (c : Cluster) (e k : ℕ) (v w : View) → IsCluster c → e ≤ k → view_of_epoch c.views e ≡ Some v → view_of_epoch c.views k ≡ Some w
    → IsLater c.config v w

-- a partition that goes on with its owner and its era; and its owner with its life
pub record IsOwnedOn (v w : View) (q : ℕ) : Type 0 where
  pub owner : owner_of w q ≡ owner_of v q
  pub era : since_of w q ≡ since_of v q
  pub lives : born_of w (owner_of w q) ≡ born_of v (owner_of w q)

-- a node that goes on with its birth, and isn't live unless it was
pub record IsLivedOn (v w : View) (n : ℕ) : Type 0 where
  pub born : born_of w n ≡ born_of v n
  pub live : is_live w.live n ≡ true → is_live v.live n ≡ true

-- a node that begins a life
pub record IsBorn (w : View) (n : ℕ) : Type 0 where
  pub born : born_of w n ≡ w.epoch
  pub live : is_live w.live n ≡ true

-- of two views in a row, each partition and each node goes on, or is of the new epoch
pub record GoesOn (c : Sizes) (v w : View) : Type 0 where
  pub epoch : w.epoch ≡ v.epoch + 1
  pub owned : (q : ℕ) → q < c.nodes → IsOwnedOn v w q ⊎ (since_of w q ≡ w.epoch)
  pub lived : (n : ℕ) → n < c.nodes → IsLivedOn v w n ⊎ IsBorn w n

abbrev pub NextGoesOn : Type 0
NextGoesOn = (c : Sizes) (v w : View) → IsWhole c v → IsNext c v w → GoesOn c v w

-- no era and no birth falls with the epoch, and none is above it
abbrev pub ErasNeverFall : Type 0
ErasNeverFall = (c : Cluster) (q e k : ℕ) → IsCluster c → e ≤ k → k ≤ (last_view c).epoch → era_at c q e ≤ era_at c q k

abbrev pub BirthsNeverFall : Type 0
BirthsNeverFall = (c : Cluster) (n e k : ℕ) → IsCluster c → e ≤ k → k ≤ (last_view c).epoch → born_at c n e ≤ born_at c n k

abbrev pub ErasAreReached : Type 0
ErasAreReached = (c : Cluster) (q e : ℕ) → IsCluster c → era_at c q e ≤ e

abbrev pub BirthsAreReached : Type 0
BirthsAreReached = (c : Cluster) (n e : ℕ) → IsCluster c → born_at c n e ≤ e

-- the era of a partition has one owner
abbrev pub ErasHaveOneOwner : Type 0
ErasHaveOneOwner = (c : Cluster) (q e k : ℕ) → IsCluster c → era_at c q e ≡ era_at c q k → owner_at c q e ≡ owner_at c q k

-- an era goes on from the epoch that it is called by
abbrev pub ErasGoOn : Type 0
ErasGoOn =
    (c : Cluster) (q e k : ℕ) → IsCluster c → e ≤ (last_view c).epoch → era_at c q e ≤ k → k ≤ e → era_at c q k ≡ era_at c q e

-- in the view of an epoch a node lives its life that began with epoch b
pub record Lives (c : Cluster) (n b e : ℕ) : Type 0 where
  pub live : live_at c n e ≡ true
  pub born : born_at c n e ≡ b

abbrev pub LivesGoOn : Type 0
LivesGoOn =
    (c : Cluster) (n e k : ℕ) → IsCluster c → live_at c n e ≡ true → born_at c n e ≤ k → k ≤ e → Lives c n (born_at c n e) k

-- an owner is live, and was born by its era
abbrev pub OwnersAreLive : Type 0
OwnersAreLive =
    (c : Cluster) (q e : ℕ) → IsCluster c → q < c.config.nodes → 1 ≤ e → e ≤ (last_view c).epoch → live_at c (owner_at c q e) e ≡ true

abbrev pub OwnersWereBorn : Type 0
OwnersWereBorn = (c : Cluster) (q e : ℕ) → IsCluster c → q < c.config.nodes → born_at c (owner_at c q e) e ≤ era_at c q e

-- what a node has in its view is so at its epoch
pub record KnowsEras (c : Cluster) (n : ℕ) (s : NodeState) (v : View) : Type 0 where
  pub eras : (q : ℕ) → era_at c q s.epoch ≡ since_of v q
  pub owners : (q : ℕ) → owner_at c q s.epoch ≡ owner_of v q
  pub births : (k : ℕ) → born_at c k s.epoch ≡ born_of v k
  pub lives : (k : ℕ) → live_at c k s.epoch ≡ is_live v.live k
  pub own : Lives c n s.home.txs.born s.epoch

abbrev pub MembersKnowEras : Type 0
MembersKnowEras =
    (c : Cluster) (n : ℕ) (s : NodeState) (v : View) → IsMember c.config c.views n s → s.view ≡ Some v → KnowsEras c n s v

-- a node that is up lives its life in each view from its birth on
abbrev pub UpNodesLive : Type 0
UpNodesLive =
    (c : Cluster) (n : ℕ) (s : NodeState) (e : ℕ) → IsCluster c → node_at c n ≡ Some s → life_of s ≤ e → e ≤ (last_view c).epoch
    → Lives c n (life_of s) e
