-- The end of a transaction that is still to be told at the table of its page, and the state of the machine once it is.
use Rattle.std.specs.Prelude.{◌≡◌, ◌≢◌, ℕ, ◌&&◌, eqb, Bool, true, false, Option, Some, None, is_some}
use Rattle.std.specs.List.{AllByRecursion}
use Rattle.pcl_base.specs.declared.event.Event.{Event}
use Rattle.pcl_base.specs.declared.message.Change.{Change}
use Rattle.pcl_base.specs.declared.message.Message.{Message}
use Rattle.pcl_base.specs.declared.tx.TxId.{TxId}
use Rattle.node_rules.specs.NodeState.{partition}
use Rattle.node_rules.specs.Work.{Work}
use Rattle.cluster_rules.specs.Clusters.{Cluster, version_of_change}
use Rattle.cluster_laws.specs.Era.Eras.{era_at}
use Rattle.cluster_laws.specs.Link.Coming.{coming}
use Rattle.cluster_laws.specs.Link.Orders.{is_report, how_many}
use Rattle.page_protocol.specs.Bytes.{Copy}
use Rattle.page_protocol.specs.State.{upd, set_at, Gone, Ended, Page}
use Rattle.page_relation.specs.Messages.{ChangeHas, is_release}
use Rattle.page_relation.specs.Work.Events.{IsEntered}
use Rattle.page_relation.specs.Work.Landing.{land}

-- a transaction is gone, and era f lists it no more; entry, copies, disk and dirty mark are these
abbrev pub ended_as : Page → TxId → ℕ → ℕ → (ℕ → Option Copy) → Copy → Bool → Page
ended_as a t f entry slot disk dirty =
    record a {
      listed = set_at a.listed t f None;
      home = upd a.home t Gone;
      entry = entry;
      slot = slot;
      disk = disk;
      dirty = dirty;
    }

-- No message that counts tells the end of t, and no report of its node comes that is of the era which n has reached.
pub record IsUntold (c : Cluster) (e : Event) (n p : ℕ) (t : TxId) (w : Work) (a : Page) : Type 0 where
  pub unreleased : (x y : ℕ) → how_many (is_release t) (coming (land c e n w) p x y) ≡ 0
  pub unreported : (x y : ℕ)
      → AllByRecursion (λ (m : Message). is_report m.body ≡ true → x ≡ t.node → era_at c (partition c.config p) m.epoch ≢ a.reached n) (coming (land c e n w) p x y)

-- The end of t is still to be told at the table of the page, with this change. Where node n is the owner that serves, its
-- copy has the change already.
pub record OwesEnd (c : Cluster) (e : Event) (n p : ℕ) (t : TxId) (change : Option Change) (w : Work) (a : Page) : Type 0 where
  pub ended : a.home t ≡ Ended (version_of_change change) (a.reached n)
  pub untold : IsUntold c e n p t w a
  pub image : ChangeHas a.hist change
  pub entered : (is_some change && (a.served && eqb n a.owner)) ≡ false → IsEntered a
  pub copy : (x : Change) → change ≡ Some x → a.served ≡ true → n ≡ a.owner
      → (a.dirty ≡ true) × (a.slot n ≡ Some (record { version = x.version; bytes = x.image }))
