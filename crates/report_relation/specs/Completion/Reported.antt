-- A report that is taken, also where no further one is missing.
use Rattle.std.specs.Prelude.{◌≡◌, ℕ, false, List, Some}
use Rattle.pcl_base.specs.declared.event.Event.{Event}
use Rattle.pcl_base.specs.declared.message.Body.TheVariants as body
use Rattle.pcl_base.specs.declared.message.Message.{Message}
use Rattle.pcl_base.specs.declared.message.Report.{Report}
use Rattle.run_rules.specs.Views.{View}
use Rattle.node_rules.specs.LockTable.{LockTable}
use Rattle.node_rules.specs.NodeState.{NodeState, partition, table_at}
use Rattle.node_rules.specs.Work.{Work}
use Rattle.cluster_rules.specs.Clusters.{Cluster}
use Rattle.cluster_rules.specs.ClusterStep.{step}
use Rattle.cluster_laws.specs.Era.Eras.{era_in}
use Rattle.page_protocol.specs.State.{Page}
use Rattle.page_relation.specs.Together.{IsParty}
use Rattle.page_relation.specs.Work.Events.{IsEntered}
use Rattle.page_relation.specs.Work.StepEnds.{Follows}
use Rattle.page_relation.specs.Work.Taken.{taken_of}
use Rattle.settle_relation.specs.Arriving.{IsTakenIn, IsWhole}
use Rattle.report_relation.specs.Completing.{IsReady, NewHaveNoRight}
use Rattle.report_relation.specs.Gathering.{NoneIsAhead, gathered}
use Rattle.report_relation.specs.Completion.Completed.{CanBeWhole}

-- the table to which a report comes, which is being rebuilt
pub record IsAwaiting (s : NodeState) (r : Report) (t : LockTable) : Type 0 where
  pub there : table_at s r.partition ≡ Some t
  pub rebuilt : t.serving ≡ false

-- What is taken of it, where it is the page's: nobody is ahead, and where no further report is missing the machine comes
-- to a state in which the table has all of its era.
pub record MayTake (c : Cluster) (e : Event) (n p from : ℕ) (s : NodeState) (r : Report) (a : Page) : Type 0 where
  pub quiet : NewHaveNoRight c p
  pub behind : (t : LockTable) → IsAwaiting s r t → r.partition ≡ partition c.config p → NoneIsAhead a.listed (era_in s.view r.partition) p t
  pub whole : (t : LockTable) → IsAwaiting s r t → (v : View) (u : LockTable) → r.partition ≡ partition c.config p
      → IsReady c n r.partition (gathered r.partition t from r (taken_of c s)) v u
      → CanBeWhole c e n p r.partition (gathered r.partition t from r (taken_of c s)) v u a

-- So the whole event of a report keeps the relation.
abbrev pub ReportIsKept : Type 0
ReportIsKept =
    (c : Cluster) (e : Event) (n p from : ℕ) (s : NodeState) (m : Message) (r : Report) (x : Work) (blank : List ℕ) (a : Page) → IsTakenIn c e n p from s m blank a
    → IsWhole c n from s m x → IsParty c from n m → m.body ≡ body.Report r → MayTake c e n p from s r a → Follows p IsEntered a (step c e)
