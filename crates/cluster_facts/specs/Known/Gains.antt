-- From where a node has the locks and rights that a step leaves it.
use Rattle.std.specs.Prelude.{◌≡◌, ◌≢◌, ◌⊎◌, ℕ, ◌<◌, true, None, IfSome, ⊤}
use Rattle.std.specs.List.{AllByRecursion}
use Rattle.pcl_base.specs.declared.lock.Verdict.TheVariants as verdict
use Rattle.pcl_base.specs.declared.message.Body.{Body}
use Rattle.pcl_base.specs.declared.message.Body.TheVariants as body
use Rattle.pcl_base.specs.declared.message.Grant.{Grant}
use Rattle.pcl_base.specs.declared.message.Message.{Message}
use Rattle.pcl_base.specs.declared.tx.TxId.{TxId}
use Rattle.run_rules.specs.Disk.{Disk}
use Rattle.node_rules.specs.LockTable.{LockTable}
use Rattle.node_rules.specs.NodeState.{NodeState, NodeEvent, Deliver, Outgoing, number_of, table_at, table_of, is_serving}
use Rattle.node_rules.specs.NodeStep.{Plan, judge_in, partition_of}
use Rattle.node_rules.specs.OpenTxs.{held_by}
use Rattle.node_rules.specs.Shelf.{right_on}
use Rattle.node_laws.specs.Laws.{IsStep}

-- a grant of a page that is taken in the step
pub record HasGrant (n : NodeState) (event : NodeEvent) (page : ℕ) : Type 0 where
  pub from : ℕ
  pub message : Message
  pub grant : Grant
  pub comes : event ≡ Deliver from message
  pub taken : judge_in n.view (number_of n) from message.epoch (partition_of n.home.config message.body) ≡ verdict.Taken
  pub says : message.body ≡ body.Grant grant
  pub same : grant.page ≡ page

-- the right of the page was on the shelf, or comes with a grant
abbrev pub HasRight : NodeState → NodeEvent → ℕ → Type 0
HasRight n event page = (right_on n.home.shelf page ≢ None) ⊎ HasGrant n event page

-- an answer is of a page whose right was on the shelf
abbrev pub IsAnswer : NodeState → Body → Type 0
IsAnswer n (body.Return r) = right_on n.home.shelf r.page ≢ None
IsAnswer n _ = ⊤

-- What a step leaves: each lock was there before, or is under a right, or of a table that serves; each right was
-- there or came; and each answer is of a right that was there.
pub record HasGained (n : NodeState) (event : NodeEvent) (p : Plan) : Type 0 where
  pub locks : (t : TxId) (page : ℕ) → held_by p.node.home.txs t page ≢ None
      → (held_by n.home.txs t page ≢ None) ⊎ HasRight n event page ⊎ (is_serving (table_of p.node page) ≡ true)
  pub rights : (page : ℕ) → right_on p.node.home.shelf page ≢ None → HasRight n event page
  pub answers : AllByRecursion (λ (o : Outgoing). IsAnswer n o.message.body) p.sends
  -- a table that serves goes on serving, where the node keeps it
  pub served : (q : ℕ) → q < n.home.config.nodes → is_serving (table_at n q) ≡ true → IfSome (table_at p.node q) (λ (t : LockTable). t.serving ≡ true)

-- a step on any event
abbrev pub StepsGain : Type 0
StepsGain = (n : NodeState) (event : NodeEvent) (d : Disk) (p : Plan) → IsStep n event d p → HasGained n event p
