-- What of a partition that a node keeps is clear of the nodes that its new view drops, where a few more things are known.
use Rattle.std.specs.Prelude.{◌≡◌, ◌⊎◌, ℕ, ◌<◌, ◌≤◌, ◌&&◌, not, nat_le, Bool, true, false, List, Some, None}
use Rattle.pcl_base.specs.declared.event.Event.{Event}
use Rattle.pcl_base.specs.declared.tx.TxId.{TxId}
use Rattle.run_rules.specs.Views.{View, is_live}
use Rattle.node_rules.specs.NodeState.{NodeState, partition}
use Rattle.node_rules.specs.Work.{Work}
use Rattle.cluster_rules.specs.Clusters.{Cluster, last_view, node_at}
use Rattle.cluster_laws.specs.Era.Eras.{era_at, life_of}
use Rattle.cluster_laws.specs.Era.EraLaws.{Lives}
use Rattle.page_protocol.specs.State.{has, NoRight, Returning, Page, IsShelf}
use Rattle.page_laws.specs.Storage.Looks.{is_among}
use Rattle.page_relation.specs.Work.Keeping.{IsWorkOf}
use Rattle.page_relation.specs.Work.Landing.{Acts}
use Rattle.kept_relation.specs.Clearing.{IsClear}
use Rattle.kept_relation.specs.Sparing.{OwnsIn}

-- a transaction that a later era lists is of a life that its node lives in a view of that era, or of a later one
pub record IsOfLife (c : Cluster) (q : ℕ) (t : TxId) (f : ℕ) : Type 0 where
  pub at : ℕ
  pub made : at ≤ (last_view c).epoch
  pub lives : Lives c t.node t.born at
  pub era : f ≤ era_at c q at

-- What is known beside the relation: whom later eras list; that the era which is served lists only transactions of nodes
-- that were live in its owner's view, born by its epoch, and has no other rights out; that a right on a shelf is of a
-- life, and readers that an answer names are born, by that epoch.
pub record AreKnown (c : Cluster) (q epoch : ℕ) (before : ℕ → Bool) (a : Page) : Type 0 where
  pub later : (t : TxId) (f : ℕ) → a.era < f → (a.listed t f ≡ None) ⊎ IsOfLife c q t f
  pub listed : (t : TxId) → (a.listed t a.era ≡ None) ⊎ ((before t.node ≡ true) × (t.born ≤ epoch))
  pub rights : (m : ℕ) → before m ≡ false → a.right m ≡ NoRight
  pub shelves : (m : ℕ) (s : NodeState) → node_at c m ≡ Some s → IsShelf (a.right m) → life_of s ≤ epoch
  pub readers : (m upto : ℕ) (readers : List TxId) → a.right m ≡ Returning upto readers → (t : TxId) → has t readers ≡ true → t.born ≤ epoch

-- the nodes that were live before and aren't listed now
abbrev pub gone_in : (ℕ → Bool) → View → ℕ → Bool
gone_in before v m = before m && not (is_live v.live m)

-- their transactions
abbrev pub dead_of : (ℕ → Bool) → View → TxId → Bool
dead_of before v t = gone_in before v t.node && nat_le t.born v.epoch

-- So the partition is clear of them.
abbrev pub KnownIsClear : Type 0
KnownIsClear =
    (c : Cluster) (e : Event) (n p k : ℕ) (v : View) (before : ℕ → Bool) (lost : List ℕ) (w : Work) (a : Page) → Acts c n → IsWorkOf c e n p w a
    → OwnsIn c e n p v (gone_in before v) w a.era → AreKnown c (partition c.config p) v.epoch before a → ((m : ℕ) → gone_in before v m ≡ true → is_among lost m ≡ true)
    → ((m : ℕ) → before m ≡ true → m < k) → IsClear c e n p v lost k (dead_of before v) (gone_in before v) w a
