-- A table without a missing report is served, once its pages are redone.
use Rattle.std.specs.Prelude.{◌≡◌, ℕ, ◌<◌, true, false, List, Some, None}
use Rattle.std.specs.List.{AllByRecursion}
use Rattle.pcl_base.specs.declared.event.Event.{Event}
use Rattle.pcl_base.specs.declared.message.Message.{Message}
use Rattle.pcl_base.specs.declared.reply.Reply.TheVariants as reply
use Rattle.pcl_base.specs.declared.tx.TxId.{TxId}
use Rattle.run_rules.specs.Views.{View, since_of}
use Rattle.node_rules.specs.LockTable.{LockTable, marked, serve}
use Rattle.node_rules.specs.NodeState.{partition, put_table}
use Rattle.node_rules.specs.Work.{Work, reply, with_node}
use Rattle.cluster_rules.specs.Clusters.{Cluster}
use Rattle.cluster_laws.specs.Era.Eras.{era_at}
use Rattle.cluster_laws.specs.Link.Coming.{coming}
use Rattle.cluster_laws.specs.Link.Orders.{is_report}
use Rattle.page_protocol.specs.Eras.{completing}
use Rattle.page_protocol.specs.State.{Page}
use Rattle.page_protocol.specs.Steps.{Step, Reached}
use Rattle.page_relation.specs.Messages.{CountsFor}
use Rattle.page_relation.specs.Work.Keeping.{IsWorkOf}
use Rattle.page_relation.specs.Work.Landing.{land, Acts}
use Rattle.report_relation.specs.Completing.{IsReady, NewHaveNoRight}
use Rattle.report_relation.specs.Redoing.{IsRedone}

-- Of a node whose report the table doesn't have, the era lists nothing and no right counts; and each report that still
-- comes is of a later era.
pub record HasWhole (c : Cluster) (e : Event) (n p q era : ℕ) (w : Work) (t : LockTable) (a : Page) : Type 0 where
  pub listed : (u : TxId) → marked t u.node ≡ false → a.listed u era ≡ None
  pub rights : (m : ℕ) → marked t m ≡ false → CountsFor era (a.right m) → ⊥
  pub reports : (from to : ℕ) → AllByRecursion (λ (m : Message). is_report m.body ≡ true → era < era_at (land c e n w) q m.epoch) (coming (land c e n w) p from to)

-- the table is served, and told of
abbrev pub served : ℕ → LockTable → Work → Work
served q t w = reply (reply.Serving q) (with_node w (put_table w.node q (Some (serve t))))

-- the machine's completion, and the relation with the state after it
pub record IsCompleting (c : Cluster) (e : Event) (n p q era : ℕ) (w : Work) (t : LockTable) (a : Page) : Type 0 where
  pub step : Step a (completing a era n)
  pub related : IsWorkOf c e n p (served q t w) (completing a era n)

abbrev pub CompletingIsStep : Type 0
CompletingIsStep =
    (c : Cluster) (e : Event) (n p : ℕ) (blank : List ℕ) (w : Work) (v : View) (t : LockTable) (a : Page) → Acts c n → partition c.config p < c.config.nodes → Reached blank a
    → IsReady c n (partition c.config p) w v t → NewHaveNoRight c p → HasWhole c e n p (partition c.config p) (since_of v (partition c.config p)) w t a
    → IsRedone (partition c.config p) p w a → IsWorkOf c e n p w a
    → IsCompleting c e n p (partition c.config p) (since_of v (partition c.config p)) w t a
