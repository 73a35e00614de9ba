-- A report that comes to a table that is being rebuilt.
use Rattle.std.specs.Prelude.{◌≡◌, ℕ, ◌<◌, true, false, length, List, Option, Some}
use Rattle.std.specs.List.{AllByRecursion}
use Rattle.pcl_base.specs.declared.event.Event.{Event}
use Rattle.pcl_base.specs.declared.message.Body.TheVariants as body
use Rattle.pcl_base.specs.declared.message.Message.{Message}
use Rattle.pcl_base.specs.declared.message.Report.{Report}
use Rattle.pcl_base.specs.declared.message.ReportLock.{ReportLock}
use Rattle.pcl_base.specs.declared.tx.Mode.{Mode}
use Rattle.pcl_base.specs.declared.tx.Mode.TheVariants.{Exclusive}
use Rattle.pcl_base.specs.declared.tx.TxId.{TxId}
use Rattle.run_rules.specs.Views.{View}
use Rattle.node_rules.specs.LockRule.{waits_in}
use Rattle.node_rules.specs.LockTable.{LockTable, entry_at, marked}
use Rattle.node_rules.specs.NodeState.{NodeState, partition, table_at, put_table}
use Rattle.node_rules.specs.Reports.{gather, missing}
use Rattle.node_rules.specs.Work.{Work, with_node}
use Rattle.cluster_rules.specs.Clusters.{Cluster}
use Rattle.cluster_rules.specs.ClusterStep.{step}
use Rattle.cluster_laws.specs.Era.Eras.{era_in}
use Rattle.page_protocol.specs.State.{Page}
use Rattle.page_relation.specs.Messages.{ReportIs}
use Rattle.page_relation.specs.Together.{IsParty}
use Rattle.page_relation.specs.Work.Events.{IsEntered}
use Rattle.page_relation.specs.Work.Keeping.{IsWorkOf}
use Rattle.page_relation.specs.Work.Landing.{Acts}
use Rattle.page_relation.specs.Work.StepEnds.{Follows}
use Rattle.settle_relation.specs.Arriving.{IsTakenIn, IsWhole}

-- Of a node whose report the table doesn't have, nobody waits in the entry whom the era lists as writing the page.
abbrev pub NoneIsAhead : (TxId → ℕ → Option Mode) → ℕ → ℕ → LockTable → Type 0
NoneIsAhead listed e p t =
    (u : TxId) → marked t u.node ≡ false → listed u e ≡ Some Exclusive → waits_in (entry_at t p).waiting u ≡ false

-- the locks of a report are those of one node's transactions
abbrev pub LocksAreOf : ℕ → Report → Type 0
LocksAreOf from r = AllByRecursion (λ (x : ReportLock). x.tx.node ≡ from) r.locks

-- the work with a report put into the table of a partition
abbrev pub gathered : ℕ → LockTable → ℕ → Report → Work → Work
gathered q t from r w = with_node w (put_table w.node q (Some (gather t from r)))

-- what a report needs that is put into the table of the page
pub record MayGather (n p q from : ℕ) (t : LockTable) (r : Report) (w : Work) (a : Page) : Type 0 where
  pub there : table_at w.node q ≡ Some t
  pub rebuilt : t.serving ≡ false
  pub known : from < length t.reported
  pub locks : LocksAreOf from r
  pub behind : NoneIsAhead a.listed (era_in w.node.view q) p t
  pub says : ReportIs a.era a.reached a.listed a.right a.home p from (era_in w.node.view q) r

-- It keeps the relation, with the same state: the table has what the era lists of one node more.
abbrev pub GatheringIsRelated : Type 0
GatheringIsRelated =
    (c : Cluster) (e : Event) (n p from : ℕ) (t : LockTable) (r : Report) (w : Work) (a : Page) → Acts c n → MayGather n p (partition c.config p) from t r w a
    → IsWorkOf c e n p w a → IsWorkOf c e n p (gathered (partition c.config p) t from r w) a

-- what is so of the table to which a report comes, where it is being rebuilt: nobody is ahead, and a further report is missing
pub record StillMisses (c : Cluster) (p from : ℕ) (s : NodeState) (r : Report) (a : Page) (t : LockTable) : Type 0 where
  pub behind : r.partition ≡ partition c.config p → NoneIsAhead a.listed (era_in s.view r.partition) p t
  pub missing_one : (v : View) → s.view ≡ Some v → missing (gather t from r) v r.partition ≡ true

-- A report that is taken, while a further one is missing, keeps the relation.
abbrev pub ReportIsGathered : Type 0
ReportIsGathered =
    (c : Cluster) (e : Event) (n p from : ℕ) (s : NodeState) (m : Message) (r : Report) (x : Work) (blank : List ℕ) (a : Page) → IsTakenIn c e n p from s m blank a
    → IsWhole c n from s m x → IsParty c from n m → m.body ≡ body.Report r
    → ((t : LockTable) → table_at s r.partition ≡ Some t → t.serving ≡ false → StillMisses c p from s r a t) → Follows p IsEntered a (step c e)
