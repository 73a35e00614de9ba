-- What is left to show of the kinds of steps: the events that a node makes whole, one by one.
use Rattle.std.specs.Prelude.{◌≡◌, ℕ, ◌<◌, List, Some, None}
use Rattle.pcl_base.specs.declared.event.Event.{Event}
use Rattle.pcl_base.specs.declared.lock.Verdict.TheVariants as verdict
use Rattle.pcl_base.specs.declared.message.Body.TheVariants as body
use Rattle.pcl_base.specs.declared.message.Grant.{Grant}
use Rattle.pcl_base.specs.declared.message.Message.{Message}
use Rattle.pcl_base.specs.declared.message.Release.{Release}
use Rattle.pcl_base.specs.declared.message.Report.{Report}
use Rattle.pcl_base.specs.declared.message.Request.{Request}
use Rattle.pcl_base.specs.declared.message.ReturnRight.{ReturnRight}
use Rattle.pcl_base.specs.declared.tx.TxId.{TxId}
use Rattle.run_rules.specs.Views.{View}
use Rattle.node_rules.specs.DiskCalls.{Left}
use Rattle.node_rules.specs.NodeState.{NodeState, NodeEvent, Read, Write, Commit, Abort, Deliver, Install, number_of}
use Rattle.node_rules.specs.NodeStep.{Plan, partition_of, judge_in, do_event, nodestep}
use Rattle.node_rules.specs.Refusals.{refusal}
use Rattle.node_rules.specs.Work.{Work, Goes}
use Rattle.cluster_rules.specs.Clusters.{Cluster, stop_at}
use Rattle.cluster_rules.specs.ClusterStep.{halted, left_of, step}
use Rattle.cluster_laws.specs.Handed.{IsHanded}
use Rattle.page_relation.specs.Together.{HasPages}
use Rattle.page_relation.specs.Work.Events.{IsEntered}
use Rattle.page_relation.specs.Work.StepEnds.{start_of, Follows}
use Rattle.related_runs.specs.Kinds.{StepsByKind}
use Rattle.related_runs.specs.RunLaws.{IsOfRun, LeavesPages}

-- a step that a node makes whole, on an event that isn't refused
pub record IsMade (c : Cluster) (e : Event) (n : ℕ) (s : NodeState) (ev : NodeEvent) (w : Work) : Type 0 where
  pub handed : IsHanded c e n s ev
  pub free : refusal s ev ≡ None
  pub goes : do_event c.disk ev (start_of c s) ≡ Goes w
  pub whole : left_of n c.disk w.calls (stop_at c n) ≡ None

-- the state of each page of a cluster of a run leads to one that the step leaves
abbrev pub Leads : (blank : List ℕ) (c : Cluster) → Event → IsOfRun blank c → Type 0
Leads blank c e is = (p : ℕ) → p < c.config.pages → Follows p IsEntered (is.related.pages.page p) (step c e)

-- so does every such step on an event
abbrev pub ActsOn : List ℕ → Cluster → NodeEvent → Type 0
ActsOn blank c ev = (e : Event) (n : ℕ) (s : NodeState) (w : Work) (is : IsOfRun blank c) → IsMade c e n s ev w → Leads blank c e is

-- and on a message that is taken
abbrev pub TakesIn : List ℕ → Cluster → ℕ → Message → Type 0
TakesIn blank c from m =
    (e : Event) (n : ℕ) (s : NodeState) (w : Work) (is : IsOfRun blank c) → IsMade c e n s (Deliver from m) w
    → judge_in s.view (number_of s) from m.epoch (partition_of s.home.config m.body) ≡ verdict.Taken → Leads blank c e is

-- A stop in a step on an event leaves the pages related.
abbrev pub StopsIn : List ℕ → Cluster → NodeEvent → Type 0
StopsIn blank c ev =
    (e : Event) (n : ℕ) (s : NodeState) (p : Plan) (l : Left) → IsOfRun blank c → IsHanded c e n s ev → nodestep s ev c.disk ≡ Goes p
    → left_of n c.disk p.calls (stop_at c n) ≡ Some l → HasPages blank (halted e n l c)

-- What is left to show of a cluster: accesses, ends, installs, and messages that are taken, but for revocations; and stops in installs and reports.
pub record ActsByEvent (blank : List ℕ) (c : Cluster) : Type 0 where
  pub reads : (t : TxId) (p : ℕ) → ActsOn blank c (Read t p)
  pub writes : (t : TxId) (p place : ℕ) (bytes : List ℕ) → ActsOn blank c (Write t p place bytes)
  pub commits : (t : TxId) → ActsOn blank c (Commit t)
  pub aborts : (t : TxId) → ActsOn blank c (Abort t)
  pub installs : (v : View) → ActsOn blank c (Install v)
  pub requests : (from : ℕ) (m : Message) (r : Request) → m.body ≡ body.Request r → TakesIn blank c from m
  pub grants : (from : ℕ) (m : Message) (g : Grant) → m.body ≡ body.Grant g → TakesIn blank c from m
  pub releases : (from : ℕ) (m : Message) (r : Release) → m.body ≡ body.Release r → TakesIn blank c from m
  pub returns : (from : ℕ) (m : Message) (r : ReturnRight) → m.body ≡ body.Return r → TakesIn blank c from m
  pub reports : (from : ℕ) (m : Message) (r : Report) → m.body ≡ body.Report r → TakesIn blank c from m
  pub stopped_installs : (v : View) → StopsIn blank c (Install v)
  pub stopped_reports : (from : ℕ) (m : Message) (r : Report) → m.body ≡ body.Report r → StopsIn blank c (Deliver from m)

-- Then all kinds of steps are shown.
abbrev pub EventsAreAll : Type 0
EventsAreAll = (blank : List ℕ) (c : Cluster) → ActsByEvent blank c → StepsByKind blank c

-- So each step keeps the pages, where the cluster is one of a run.
abbrev pub EventsKeepPages : Type 0
EventsKeepPages = (blank : List ℕ) (c : Cluster) (e : Event) → ActsByEvent blank c → IsOfRun blank c → LeavesPages blank (step c e)
