-- The versions of the ledger of a trace are those of now.
use Rattle.std.specs.Prelude.{◌≡◌, ℕ, ◌<◌, List, IfSome, length, slice_index}
use Rattle.std.specs.List.{AllByRecursion}
use Rattle.pcl_base.specs.Limits.{Sizes, InLimits}
use Rattle.pcl_base.specs.declared.event.Event.{Event}
use Rattle.pcl_base.specs.declared.trace.Entry.{Entry}
use Rattle.run_rules.specs.Base.{Base, version_at}
use Rattle.run_rules.specs.Ledger.{Ledger}
use Rattle.run_rules.specs.Now.{now}
use Rattle.run_rules.specs.Script.{moments}
use Rattle.cluster_rules.specs.Clusters.{Cluster}
use Rattle.cluster_rules.specs.ClusterStep.{step}
use Rattle.cluster_rules.specs.Run.{run}
use Rattle.cluster_laws.specs.Ask.Asked.{AllWaitAsAsked}
use Rattle.cluster_laws.specs.Sound.{IsCluster}
use Rattle.account_relation.specs.Ledgers.{Leaves}
use Rattle.account_strands.specs.Versions.{HaveVersions}
use Rattle.account_versions.specs.Asked.{WritesAreAsked, HaveAskedWrites}

-- a ledger has a version for each page: that of now, where now is known
pub record AreVersions (c : Sizes) (trace : List Entry) (l : Ledger) : Type 0 where
  pub pages : length l.versions ≡ c.pages
  pub now : IfSome (now c trace) (λ (b : Base). (p : ℕ) → p < c.pages → slice_index l.versions p ≡ version_at b p)

-- A trace that leaves a ledger, and in which each granted write was asked for.
abbrev pub VersionsAreNow : Type 0
VersionsAreNow = (c : Sizes) (trace : List Entry) (l : Ledger) → Leaves c trace l → WritesAreAsked (moments trace) → AreVersions c trace l

-- So every cluster whose trace leaves a ledger.
abbrev pub ClustersHaveVersions : Type 0
ClustersHaveVersions = (c : Cluster) (l : Ledger) → HaveAskedWrites c → Leaves c.config c.trace l → HaveVersions c l

-- The cluster that a step comes to is one.
abbrev pub StepsKeepVersions : Type 0
StepsKeepVersions =
    (c : Cluster) (e : Event) (l : Ledger) → IsCluster c → AllWaitAsAsked c → HaveAskedWrites c → Leaves c.config (step c e).trace l → HaveVersions (step c e) l

-- And every cluster of a run.
abbrev pub RunsHaveVersions : Type 0
RunsHaveVersions =
    (c : Sizes) (es : List Event) → InLimits c → AllByRecursion (λ (k : Cluster). (l : Ledger) → Leaves k.config k.trace l → HaveVersions k l) (run c es)
