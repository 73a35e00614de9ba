-- Steps that a node makes whole, from a cluster of a run.
use Rattle.std.specs.Prelude.{◌≡◌, ℕ, ◌<◌, List, None}
use Rattle.pcl_base.specs.declared.event.Event.{Event}
use Rattle.pcl_base.specs.declared.lock.Verdict.TheVariants as verdict
use Rattle.pcl_base.specs.declared.message.Message.{Message}
use Rattle.node_rules.specs.NodeState.{NodeState, NodeEvent, Deliver, number_of}
use Rattle.node_rules.specs.NodeStep.{partition_of, judge_in, do_event}
use Rattle.node_rules.specs.Refusals.{refusal}
use Rattle.node_rules.specs.Work.{Work, Goes, Differs}
use Rattle.cluster_rules.specs.Clusters.{Cluster, stop_at}
use Rattle.cluster_rules.specs.ClusterStep.{left_of, step}
use Rattle.cluster_laws.specs.Handed.{IsHanded}
use Rattle.page_relation.specs.Loss.Writes.{RedoesNothing}
use Rattle.page_relation.specs.Work.Events.{IsEntered}
use Rattle.page_relation.specs.Work.StepEnds.{start_of, Follows}
use Rattle.related_runs.specs.RunLaws.{IsOfRun}

-- A node doesn't refuse its event, no page that it reads differs, and no stop ends its step.
pub record IsWholeStep (c : Cluster) (e : Event) (n : ℕ) (s : NodeState) (ev : NodeEvent) (w : Work) : Type 0 where
  pub handed : IsHanded c e n s ev
  pub free : refusal s ev ≡ None
  pub goes : do_event c.disk ev (start_of c s) ≡ Goes w
  pub whole : left_of n c.disk w.calls (stop_at c n) ≡ None

-- Each such step on an event leads each page to a state that it then has.
abbrev pub ActKeeps : List ℕ → NodeEvent → Type 0
ActKeeps blank ev =
    (c : Cluster) (e : Event) (n : ℕ) (s : NodeState) (w : Work) (is : IsOfRun blank c) → IsWholeStep c e n s ev w
    → (p : ℕ) → p < c.config.pages → Follows p IsEntered (is.related.pages.page p) (step c e)

-- It does on each event that redoes no page: any but an install and a report that arrives.
abbrev pub ActedIsKept : Type 0
ActedIsKept = (blank : List ℕ) (ev : NodeEvent) → RedoesNothing ev → ActKeeps blank ev

-- So it does on each message that isn't taken, which may be a report.
abbrev pub UntakenActIsKept : Type 0
UntakenActIsKept =
    (blank : List ℕ) (c : Cluster) (e : Event) (n from : ℕ) (s : NodeState) (m : Message) (is : IsOfRun blank c) → IsHanded c e n s (Deliver from m)
    → (judge_in s.view (number_of s) from m.epoch (partition_of s.home.config m.body) ≡ verdict.Taken → ⊥)
    → (p : ℕ) → p < c.config.pages → Follows p IsEntered (is.related.pages.page p) (step c e)

-- No page differs that is read for an event.
abbrev pub ActAgrees : List ℕ → NodeEvent → Type 0
ActAgrees blank ev =
    (c : Cluster) (e : Event) (n : ℕ) (s : NodeState) → IsOfRun blank c → IsHanded c e n s ev → refusal s ev ≡ None
    → (q expected found : ℕ) → do_event c.disk ev (start_of c s) ≡ Differs q expected found → ⊥

-- None does on any of the same events.
abbrev pub NoActDiffers : Type 0
NoActDiffers = (blank : List ℕ) (ev : NodeEvent) → RedoesNothing ev → ActAgrees blank ev
