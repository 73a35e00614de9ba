-- What holds of every cluster in a run: its views follow one another, each node that is up belongs to
-- them, and the messages on the links are those of nodes in these views.
use Rattle.std.specs.Prelude.{◌≡◌, ◌≢◌, ℕ, ◌+◌, ◌<◌, ◌≤◌, ⊤, true, List, [], ◌∷◌, length, Some, None, is_some, IfSome}
use Rattle.std.specs.List.{AllByRecursion}
use Rattle.pcl_base.specs.Limits.{Sizes, InLimits}
use Rattle.pcl_base.specs.declared.message.Message.{Message}
use Rattle.text_rules.specs.MessageBytes.{IsMessage}
use Rattle.run_rules.specs.Views.{View, is_live, first, follows}
use Rattle.node_rules.specs.Words.{pick}
use Rattle.node_rules.specs.NodeState.{NodeState, number_of}
use Rattle.node_rules.specs.Refusals.{may_begin}
use Rattle.rule_laws.specs.LaterViews.{IsNext}
use Rattle.node_laws.specs.Nodes.{IsSound, DiskFits}
use Rattle.cluster_rules.specs.Links.{Links, row_at, link_at}
use Rattle.cluster_rules.specs.Clusters.{Cluster, node_at, view_of_epoch, last_or, last_view}

-- views of which each is the next one of the one before
abbrev pub FollowOn : Sizes → View → List View → Type 0
FollowOn c v [] = ⊤
FollowOn c v (w ∷ ws) = IsNext c v w × FollowOn c w ws

-- the views that were made: view 1, and the next ones
abbrev pub AreViews : Sizes → List View → Type 0
AreViews c [] = ⊥
AreViews c (v ∷ vs) = (v ≡ first c) × FollowOn c v vs

-- from an epoch on, views are made by moving the one before, and not by reopening
abbrev pub MoveAfter : Sizes → ℕ → View → List View → Type 0
MoveAfter c e v [] = ⊤
MoveAfter c e v (w ∷ ws) = (e ≤ v.epoch → follows c v w ≡ true) × MoveAfter c e w ws

-- the same of all views
abbrev pub MoveFrom : Sizes → ℕ → List View → Type 0
MoveFrom c e [] = ⊤
MoveFrom c e (v ∷ vs) = MoveAfter c e v vs

-- the first epoch of which a node knows that the next view moves it: its own, or where it is in no
-- view the next one
abbrev pub moves_from : NodeState → ℕ
moves_from s = pick (is_some s.view) s.epoch (s.epoch + 1)

-- the view after a node's own is there, and the node may begin with it
pub record MayBeginNext (views : List View) (s : NodeState) : Type 0 where
  pub next : View
  pub there : view_of_epoch views (s.epoch + 1) ≡ Some next
  pub allowed : may_begin s next ≡ true

-- a node that is up: it is sound, at its place, and of the cluster's sizes; its view is that of its
-- epoch, and each later one keeps it and follows the one before
pub record IsMember (c : Sizes) (views : List View) (n : ℕ) (s : NodeState) : Type 0 where
  pub sound : IsSound s
  pub config : s.home.config ≡ c
  pub number : number_of s ≡ n
  pub reached : s.epoch ≤ (last_or (first c) views).epoch
  pub view : IfSome s.view (λ v. view_of_epoch views s.epoch ≡ Some v)
  pub kept : (e : ℕ) → s.epoch < e → IfSome (view_of_epoch views e) (λ v. is_live v.live n ≡ true)
  pub begins : s.view ≡ None → MayBeginNext views s
  pub follow : MoveFrom c (moves_from s) views

-- a message on the link from a to b: of the grammar, and of no later epoch than the last view
pub record IsOnLink (c : Sizes) (last a b : ℕ) (m : Message) : Type 0 where
  pub sender : a < c.nodes
  pub receiver : b < c.nodes
  pub others : a ≢ b
  pub epoch : m.epoch ≤ last
  pub message : IsMessage c m

-- a link for each pair of nodes
pub record AreLinks (c : Sizes) (last : ℕ) (ls : Links) : Type 0 where
  pub rows : length ls ≡ c.nodes
  pub row : (a : ℕ) → a < c.nodes → length (row_at ls a) ≡ c.nodes
  pub messages : (a b : ℕ) → AllByRecursion (IsOnLink c last a b) (link_at ls a b)

-- what holds of every cluster
pub record IsCluster (c : Cluster) : Type 0 where
  pub limits : InLimits c.config
  pub views : AreViews c.config c.views
  pub nodes : length c.nodes ≡ c.config.nodes
  pub members : (n : ℕ) → IfSome (node_at c n) (IsMember c.config c.views n)
  pub links : AreLinks c.config (last_view c).epoch c.links
  pub disk : DiskFits c.config c.disk
  pub stops : length c.stops ≡ c.config.nodes
