-- What redo leaves of a work, and what stays known of its table.
use Rattle.std.specs.Prelude.{◌≡◌, ℕ, List, Some}
use Rattle.pcl_base.specs.declared.event.Event.{Event}
use Rattle.pcl_base.specs.declared.log.Record.{Record}
use Rattle.run_rules.specs.Views.{View}
use Rattle.node_rules.specs.InstallRule.{redo_page}
use Rattle.node_rules.specs.LockTable.{LockTable}
use Rattle.node_rules.specs.NodeState.{table_at}
use Rattle.node_rules.specs.Work.{Work, Goes, for_each}
use Rattle.cluster_rules.specs.Clusters.{Cluster}
use Rattle.page_protocol.specs.State.{Page}
use Rattle.page_relation.specs.Work.Landing.{Acts}
use Rattle.page_relation.specs.Work.Rest.{SameRest}
use Rattle.page_relation.specs.Work.Unseen.{SameStanding}
use Rattle.report_relation.specs.Completing.{IsReady}
use Rattle.report_relation.specs.Serving.{HasWhole}

-- the standing of the node, its messages and replies, and a table that serves as before and marks the same
pub record LooksSame (q : ℕ) (t : LockTable) (w x : Work) : Type 0 where
  pub standing : SameStanding w.node x.node
  pub replies : x.replies ≡ w.replies
  pub sends : x.sends ≡ w.sends
  pub table : LockTable
  pub there : table_at x.node q ≡ Some table
  pub serving : table.serving ≡ t.serving
  pub reported : table.reported ≡ t.reported

-- The redo of pages leaves these.
abbrev pub RedoLooksSame : Type 0
RedoLooksSame =
    (q : ℕ) (rs : List Record) (ps : List ℕ) (t : LockTable) (w x : Work) → table_at w.node q ≡ Some t → for_each (redo_page rs q) ps w ≡ Goes x → LooksSame q t w x

-- So a table that misses no report still misses none, and has all of its era where only what is stored changes.
pub record WholeStays (c : Cluster) (n q : ℕ) (t : LockTable) (w x : Work) (same : LooksSame q t w x) : Type 0 where
  pub ready : (v : View) → IsReady c n q w v t → IsReady c n q x v same.table
  pub whole : (e : Event) (p era : ℕ) (a b : Page) → Acts c n → SameRest a b → HasWhole c e n p q era w t a → HasWhole c e n p q era x same.table b

abbrev pub RedoKeepsWhole : Type 0
RedoKeepsWhole = (c : Cluster) (n q : ℕ) (t : LockTable) (w x : Work) (same : LooksSame q t w x) → WholeStays c n q t w x same
