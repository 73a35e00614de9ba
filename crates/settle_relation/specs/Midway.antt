-- What is known of a work inside a step, whatever page.
use Rattle.std.specs.Prelude.{◌≡◌, ℕ, ◌≤◌, Some, IfSome}
use Rattle.pcl_base.specs.declared.event.Event.{Event}
use Rattle.pcl_base.specs.declared.lock.Pending.{Pending}
use Rattle.pcl_base.specs.declared.tx.TxId.{TxId}
use Rattle.run_rules.specs.Views.{View}
use Rattle.node_rules.specs.NodeState.{NodeState}
use Rattle.node_rules.specs.OpenTxs.{pending_of}
use Rattle.node_rules.specs.Work.{Work, work_of_home}
use Rattle.node_laws.proofs.Works.{Base, IsBase, IsGood}
use Rattle.cluster_rules.specs.Clusters.{Cluster, node_at, view_of_epoch, last_view}
use Rattle.page_laws.specs.Moment.Looks.{asked_last}
use Rattle.page_relation.specs.Work.Landing.{trace_of}
use Rattle.page_relation.specs.Work.Letting.{CalledBy}

-- The numbers b are those of the acting node, which is in the view of its epoch, and whose epoch didn't fall within the
-- step; the work is good; its pages are those that its calls leave of the disk; and each access that waits is what was
-- asked for last.
pub record IsMidway (b : Base) (c : Cluster) (e : Event) (n : ℕ) (w : Work) : Type 0 where
  pub base : IsBase b
  pub config : b.config ≡ c.config
  pub number : b.number ≡ n
  pub view : View
  pub in_view : b.view ≡ Some view
  pub there : view_of_epoch c.views b.epoch ≡ Some view
  pub made : b.epoch ≤ (last_view c).epoch
  pub start : NodeState
  pub up : node_at c n ≡ Some start
  pub rises : start.epoch ≤ b.epoch
  pub good : IsGood b w
  pub called : CalledBy n c.disk (work_of_home w)
  pub asked : (t : TxId) → IfSome (pending_of w.node.home.txs t) (λ (x : Pending). x.write ≡ asked_last t (trace_of c e n w))
