-- A grant of another page that is carried out isn't seen.
use Rattle.std.specs.Prelude.{◌≡◌, ℕ, ◌==◌, true, false, List, Option, Some}
use Rattle.pcl_base.specs.declared.event.Event.{Event}
use Rattle.pcl_base.specs.declared.lock.Held.{Held}
use Rattle.pcl_base.specs.declared.tx.TxId.{TxId}
use Rattle.node_rules.specs.AccessRule.{Granted, granted, write_of}
use Rattle.node_rules.specs.BufferRule.{has_slot, has_private}
use Rattle.node_rules.specs.OpenTxs.{is_open, pending_of}
use Rattle.node_rules.specs.OwnerRule.{told}
use Rattle.node_rules.specs.Work.{Work, Goes, work_of_home}
use Rattle.cluster_rules.specs.Clusters.{Cluster}
use Rattle.page_laws.specs.Moment.Looks.{asked_last}
use Rattle.page_relation.specs.Work.Landing.{trace_of}
use Rattle.page_relation.specs.Work.Letting.{CalledBy}
use Rattle.page_relation.specs.Work.Unseen.{IsUnseen}

-- A transaction that is open and whose slot is there; a write that it waits for has its frame, and is what it asked for
-- last.
pub record MayGrant (c : Cluster) (e : Event) (n : ℕ) (t : TxId) (page : ℕ) (w : Work) : Type 0 where
  pub opened : is_open w.node.home.txs t ≡ true
  pub slot : has_slot w.node.home.pool page ≡ true
  pub private : (write : ℕ × List ℕ) → write_of (pending_of w.node.home.txs t) ≡ Some write → has_private w.node.home.pool t page ≡ true
  pub asked : (write : ℕ × List ℕ) → write_of (pending_of w.node.home.txs t) ≡ Some write → asked_last t (trace_of c e n w) ≡ Some write
  pub called : CalledBy n c.disk (work_of_home w)

abbrev pub GrantsElsewhere : Type 0
GrantsElsewhere =
    (c : Cluster) (e : Event) (n p : ℕ) (t : TxId) (l : Held) (version : ℕ) (image : Option (List ℕ)) (w : Work) (g : Granted) → (l.page == p) ≡ false
    → MayGrant c e n t l.page w → granted t l version image (work_of_home w) ≡ Goes g → IsUnseen c e n p w (told w g)
