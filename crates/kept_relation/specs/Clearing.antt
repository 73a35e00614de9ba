-- What a partition that a node keeps and serves needs before an install works it off.
use Rattle.std.specs.Prelude.{◌≡◌, ℕ, ◌<◌, Bool, true, List, None}
use Rattle.pcl_base.specs.declared.event.Event.{Event}
use Rattle.pcl_base.specs.declared.tx.TxId.{TxId}
use Rattle.run_rules.specs.Views.{View}
use Rattle.cluster_rules.specs.Clusters.{Cluster}
use Rattle.node_rules.specs.Work.{Work}
use Rattle.page_protocol.specs.State.{has, Returning, Page, IsClosed, IsShelf}
use Rattle.page_laws.specs.Storage.Looks.{is_among}
use Rattle.page_relation.specs.Work.Landing.{Acts}
use Rattle.kept_relation.specs.Emptying.{dead_below, gone_below, AreDead}
use Rattle.kept_relation.specs.Purging.{AreSpared, FitsServed}
use Rattle.kept_relation.specs.Redoing.{IsSince}

-- The dead and the nodes that are gone, of which the node's new view lists none: all of the lost nodes, closed, with
-- nothing on a shelf, listed nowhere later; the entry has nothing else of nodes that aren't live; and what comes and
-- counts speaks of none of them.
pub record IsClear (c : Cluster) (e : Event) (n p : ℕ) (v : View) (lost : List ℕ) (k : ℕ) (dead : TxId → Bool) (gone : ℕ → Bool) (w : Work) (a : Page) : Type 0 where
  pub are : AreDead a a.era dead gone
  pub shelves : (m : ℕ) → gone m ≡ true → IsShelf (a.right m) → ⊥
  pub readers : (m upto : ℕ) (readers : List TxId) → gone m ≡ true → a.right m ≡ Returning upto readers → (t : TxId) → t.node ≡ m → has t readers ≡ true
      → IsClosed (a.home t) × ((f : ℕ) → a.era < f → a.listed t f ≡ None)
  pub lost_too : (m : ℕ) → gone m ≡ true → is_among lost m ≡ true
  pub fits : FitsServed v.live a (dead_below k dead) (gone_below k gone)
  pub spared : AreSpared c e n p w a a.era (dead_below k dead) (gone_below k gone)

-- Redo leaves it so.
abbrev pub ClearStays : Type 0
ClearStays =
    (c : Cluster) (e : Event) (n p : ℕ) (v : View) (lost : List ℕ) (k : ℕ) (dead : TxId → Bool) (gone : ℕ → Bool) (w x : Work) (a b : Page) → Acts c n
    → IsSince w x a b → IsClear c e n p v lost k dead gone w a → IsClear c e n p v lost k dead gone x b
