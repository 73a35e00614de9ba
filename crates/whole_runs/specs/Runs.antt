-- What holds of every run of a cluster.
use Rattle.std.specs.Prelude.{◌≡◌, ℕ, List}
use Rattle.std.specs.List.{AllByRecursion}
use Rattle.pcl_base.specs.Limits.{Sizes, InLimits}
use Rattle.pcl_base.specs.declared.event.Event.{Event}
use Rattle.run_rules.specs.Account.{IsAccounted}
use Rattle.run_rules.specs.Durable.{IsDurable}
use Rattle.run_rules.specs.Fresh.{IsFresh}
use Rattle.run_rules.specs.Serial.{IsSerial}
use Rattle.node_rules.specs.NodeState.{NodeState, NodeEvent}
use Rattle.node_rules.specs.NodeStep.{nodestep}
use Rattle.node_rules.specs.Work.{Differs}
use Rattle.cluster_rules.specs.Clusters.{Cluster}
use Rattle.cluster_rules.specs.ClusterStep.{step}
use Rattle.cluster_rules.specs.Run.{last, run}
use Rattle.cluster_rules.specs.Safe.{Safe}
use Rattle.cluster_laws.specs.Handed.{IsHanded}
use Rattle.page_relation.specs.Laws.{blank}
use Rattle.related_runs.specs.RunLaws.{IsOfRun, LeavesPages}
use Rattle.cluster_facts.specs.Facts.{HaveFacts}

-- a cluster of a run, with what installs and reports need of it
pub record IsKnownRun (blank : List ℕ) (c : Cluster) : Type 0 where
  pub run : IsOfRun blank c
  pub facts : HaveFacts c

-- Each step from such a cluster leaves its pages related.
abbrev pub StepsKeepPages : Type 0
StepsKeepPages = (blank : List ℕ) (c : Cluster) (e : Event) → IsKnownRun blank c → LeavesPages blank (step c e)

-- So it comes to such a cluster,
abbrev pub StepsGoOn : Type 0
StepsGoOn = (blank : List ℕ) (c : Cluster) (e : Event) → IsKnownRun blank c → IsKnownRun blank (step c e)

-- and every cluster of a run is one.
abbrev pub RunsAreKnown : Type 0
RunsAreKnown = (c : Sizes) (es : List Event) → InLimits c → AllByRecursion (IsKnownRun (blank c)) (run c es)

-- What is promised of a cluster of a run with these sizes, but for the account of its messages: granted accesses found
-- their pages, committed transactions replied as one after another, and redo of the disks gives exactly their result.
pub record IsTrue (sizes : Sizes) (c : Cluster) : Type 0 where
  pub fresh : IsFresh sizes c.trace
  pub serial : IsSerial sizes c.trace
  pub durable : IsDurable sizes c.trace c.disk

-- Every cluster of every run keeps it,
abbrev pub RunsAreTrue : Type 0
RunsAreTrue = (c : Sizes) (es : List Event) → InLimits c → AllByRecursion (IsTrue c) (run c es)

-- the last one among them.
abbrev pub EndsAreTrue : Type 0
EndsAreTrue = (c : Sizes) (es : List Event) → InLimits c → IsTrue c (last c es)

-- Where each message has its cause, every cluster of a run is safe.
abbrev pub RunsAreSafe : Type 0
RunsAreSafe =
    (c : Sizes) (es : List Event) → InLimits c → AllByRecursion (λ k. IsAccounted k.config k.trace) (run c es) → AllByRecursion Safe (run c es)

-- No page that a node reads in a step of a run differs from what it must be.
abbrev pub NoStepDiffers : Type 0
NoStepDiffers =
    (c : Sizes) (es : List Event) (e : Event) (n : ℕ) (s : NodeState) (ev : NodeEvent) (page expected found : ℕ) → InLimits c
    → IsHanded (last c es) e n s ev → nodestep s ev (last c es).disk ≡ Differs page expected found → ⊥
