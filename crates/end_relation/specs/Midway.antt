-- What is known of a work inside a step, whatever page, and what is taken of the ends at own tables.
use Rattle.std.specs.Prelude.{◌≡◌, ℕ, ◌<◌, ◌==◌, false, List, Some}
use Rattle.pcl_base.specs.declared.event.Event.{Event}
use Rattle.pcl_base.specs.declared.tx.TxId.{TxId}
use Rattle.node_rules.specs.EndRule.{Ending}
use Rattle.node_rules.specs.LockTable.{LockTable}
use Rattle.node_rules.specs.NodeState.{table_of}
use Rattle.node_rules.specs.OwnerRule.{tell_end}
use Rattle.node_rules.specs.Work.{Work, Goes, Differs}
use Rattle.node_laws.proofs.Works.{Base}
use Rattle.cluster_rules.specs.Clusters.{Cluster}
use Rattle.page_protocol.specs.State.{Page}
use Rattle.page_protocol.specs.Steps.{Reached}
use Rattle.page_relation.specs.Work.Events.{IsEntered}
use Rattle.page_relation.specs.Work.Keeping.{IsWorkOf, Keeps}
use Rattle.page_relation.specs.Work.Unseen.{IsUnseen}
use Rattle.end_relation.specs.Owing.{OwesEnd}
pub use Rattle.end_relation.specs.Release.Owing.{IsUntold}
pub use Rattle.settle_relation.specs.Midway.{IsMidway}

-- what is known where the end of t is still to be told at the node's own table of page p
pub record OwesOwn (b : Base) (c : Cluster) (e : Event) (n p : ℕ) (t : TxId) (x : Ending) (tb : LockTable) (w : Work) (a : Page) : Type 0 where
  pub midway : IsMidway b c e n w
  pub owes : OwesEnd n t x.change a
  pub untold : IsUntold c e n p t w a
  pub table : table_of w.node p ≡ Some tb

-- an end that was told at the own table of another page isn't seen
pub record IsElsewhere (b : Base) (c : Cluster) (e : Event) (n p : ℕ) (w y : Work) : Type 0 where
  pub unseen : IsUnseen c e n p w y
  pub midway : IsMidway b c e n y

-- What is taken of the ends of t that are told at tables of the node's own: of another page than p they aren't seen, and
-- of page p they keep the relation.
pub record OwnEndsKeep (b : Base) (c : Cluster) (e : Event) (n p : ℕ) (t : TxId) : Type 0 where
  pub elsewhere : (x : Ending) (tb : LockTable) (w y : Work) → (x.page == p) ≡ false → x.page < c.config.pages → IsMidway b c e n w → table_of w.node x.page ≡ Some tb
      → tell_end t x w ≡ Goes y → IsElsewhere b c e n p w y
  pub own : (x : Ending) (tb : LockTable) → x.page ≡ p
      → Keeps c e n p (λ w a. OwesOwn b c e n p t x tb w a) (tell_end t x) (λ w a. IsMidway b c e n w × IsEntered a)

-- What is taken of them besides: no page differs where the end is told.
abbrev pub OwnEndsGo : List ℕ → Base → Cluster → Event → ℕ → TxId → Type 0
OwnEndsGo blank b c e n t =
    (x : Ending) (tb : LockTable) (w : Work) (a : Page) (q expected found : ℕ) → x.page < c.config.pages → Reached blank a → IsWorkOf c e n x.page w a
    → OwesOwn b c e n x.page t x tb w a → tell_end t x w ≡ Differs q expected found → ⊥
