-- What is known of nodes that a view doesn't list.
use Rattle.std.specs.Prelude.{◌≡◌, ℕ, ◌≤◌, ◌==◌, true, false, Some, None}
use Rattle.pcl_base.specs.declared.event.Event.{Event}
use Rattle.pcl_base.specs.declared.tx.TxId.{TxId}
use Rattle.run_rules.specs.Views.{View, is_live}
use Rattle.node_rules.specs.Work.{Work}
use Rattle.cluster_rules.specs.Clusters.{Cluster, last_view, node_at, view_of_epoch}
use Rattle.page_protocol.specs.State.{Page, IsClosed, IsShelf}
use Rattle.page_relation.specs.Work.Keeping.{IsWorkOf}
use Rattle.page_relation.specs.Work.Landing.{Acts}

-- Transactions that were born by a view which doesn't list their node are closed, where it lists the acting node.
abbrev pub GoneAreClosed : Type 0
GoneAreClosed =
    (c : Cluster) (e : Event) (n p : ℕ) (v : View) (w : Work) (a : Page) (t : TxId) → Acts c n → IsWorkOf c e n p w a → view_of_epoch c.views v.epoch ≡ Some v
    → v.epoch ≤ (last_view c).epoch → is_live v.live n ≡ true → is_live v.live t.node ≡ false → t.born ≤ v.epoch → IsClosed (a.home t)

-- Another node that is down has no right on its shelf.
abbrev pub DownHaveNoShelf : Type 0
DownHaveNoShelf =
    (c : Cluster) (e : Event) (n p m : ℕ) (w : Work) (a : Page) → Acts c n → IsWorkOf c e n p w a → (m == n) ≡ false → node_at c m ≡ None → IsShelf (a.right m) → ⊥
