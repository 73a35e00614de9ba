-- The laws of traces that leave a ledger, and of clusters with such a trace.
use Rattle.std.proofs.Common.{◌≡◌, ap, sym, subst, ◌∙◌, ℕ, ◌<◌, List, [], ◌∷◌, slice_index, Option, Some, None}
use Rattle.std.specs.Prelude.{IfSome}
use Rattle.pcl_base.specs.Limits.{Sizes}
use Rattle.pcl_base.specs.declared.trace.Entry.{Entry}
use Rattle.run_rules.specs.Base.{Base, version_at}
use Rattle.run_rules.specs.Ledger.{Ledger, first_ledger}
use Rattle.run_rules.specs.Now.{first_story, after_all}
use Rattle.run_rules.specs.Script.{moments}
use Rattle.pcl_base.specs.declared.event.Event.{Event}
use Rattle.std.specs.List.{AllByRecursion}
use Rattle.cluster_rules.specs.ClusterStep.{step}
use Rattle.cluster_rules.specs.Run.{run, run_from}
use Rattle.cluster_laws.specs.Ask.Asked.{AllWaitAsAsked}
use Rattle.cluster_laws.specs.Sound.{IsCluster}
use Rattle.cluster_laws.proofs.AskParts.Kept.{opening_waits_as_asked_law, steps_wait_as_asked_law}
use Rattle.cluster_laws.proofs.LinkParts.Stepped.{sizes_stay_law}
use Rattle.cluster_laws.proofs.Steps.{opening_is_cluster_law, step_keeps_clusters_law}
use Rattle.cluster_rules.specs.Clusters.{Cluster, opening}
use Rattle.account_relation.specs.Ledgers.{Leaves}
use Rattle.account_strands.specs.Versions.{HaveVersions}
use Rattle.account_versions.specs.Asked.{WritesAreAsked, HaveAskedWrites, RunsHaveAskedWrites}
use Rattle.account_versions.proofs.AskedParts.Stepping.{opening_has_asked_writes_law, steps_have_asked_writes_law}
use Rattle.account_versions.specs.Written.{was_granted, LedgersHaveWrites}
use Rattle.account_versions.specs.Versions.{VersionsAreNow, ClustersHaveVersions, StepsKeepVersions, RunsHaveVersions}
use Rattle.account_versions.proofs.TraceParts.Cores.{core_of}
use Rattle.account_versions.proofs.TraceParts.Sends.{leaves_core}
use Rattle.account_versions.proofs.TraceParts.Stories.{HasAll, Fits, all_fit, all_seen, first_fits}

-- what a ledger has, and what is known of now, after all moments of its trace
pub ledger_fits : (c : Sizes) (trace : List Entry) (l : Ledger) → Leaves c trace l → Fits c.pages (after_all (first_story c) (moments trace)) (core_of l)
ledger_fits c trace l leaves =
    subst (Fits c.pages (after_all (first_story c) (moments trace))) (sym (leaves_core c trace l leaves))
    (all_fit c.pages (moments trace) (first_story c) (core_of (first_ledger c)) (first_fits c))

seen_all : (c : Sizes) (trace : List Entry) → (after_all (first_story c) (moments trace)).seen ≡ moments trace
seen_all c trace = all_seen c.pages (moments trace) (first_story c)

pub ledgers_have_writes_law : LedgersHaveWrites
ledgers_have_writes_law c trace l leaves =
    let is = ledger_fits c trace l leaves in
    record {
      done = λ t p. is.done t p ∙ ap (λ ms. was_granted t p ms) (seen_all c trace);
      once = is.once;
    }

pub versions_are_now_law : VersionsAreNow
versions_are_now_law c trace l leaves asked =
    let is = ledger_fits c trace l leaves in
    record { pages = is.count; now = by (after_all (first_story c) (moments trace)).base (is.now (subst WritesAreAsked (sym (seen_all c trace)) asked)) }
  where
    by : (o : Option Base) → IfSome o (HasAll c.pages l.versions) → IfSome o (λ (b : Base). (p : ℕ) → p < c.pages → slice_index l.versions p ≡ version_at b p)
    by None all = tt
    by (Some b) all = all.1

pub clusters_have_versions_law : ClustersHaveVersions
clusters_have_versions_law c l asked leaves =
    let is = versions_are_now_law c.config c.trace l leaves asked in
    record { pages = is.pages; now = is.now }

pub steps_keep_versions_law : StepsKeepVersions
steps_keep_versions_law c e l i asked writes leaves =
    clusters_have_versions_law (step c e) l (steps_have_asked_writes_law c e i asked writes) (subst (λ (k : Sizes). Leaves k (step c e).trace l) (sym (sizes_stay_law c e)) leaves)

-- each cluster from one on whose granted writes were asked for
abbrev HasThem : Cluster → Type 0
HasThem k = (l : Ledger) → Leaves k.config k.trace l → HaveVersions k l

from_here : (es : List Event) (c : Cluster) → IsCluster c → AllWaitAsAsked c → HaveAskedWrites c → AllByRecursion HasThem (run_from c es)
unfolding run_from
from_here [] c i asked writes = (λ l leaves. clusters_have_versions_law c l writes leaves, tt)
from_here (e ∷ es) c i asked writes = (
  λ l leaves. clusters_have_versions_law c l writes leaves,
  from_here es (step c e) (step_keeps_clusters_law c e i) (steps_wait_as_asked_law c e i asked) (steps_have_asked_writes_law c e i asked writes),
)

pub runs_have_versions_law : RunsHaveVersions
unfolding run
runs_have_versions_law c es limits = from_here es (opening c) (opening_is_cluster_law c limits) (opening_waits_as_asked_law c) (opening_has_asked_writes_law c)

-- each cluster from one on
asked_from : (es : List Event) (c : Cluster) → IsCluster c → AllWaitAsAsked c → HaveAskedWrites c → AllByRecursion HaveAskedWrites (run_from c es)
unfolding run_from
asked_from [] c i asked writes = (writes, tt)
asked_from (e ∷ es) c i asked writes = (writes, asked_from es (step c e) (step_keeps_clusters_law c e i) (steps_wait_as_asked_law c e i asked) (steps_have_asked_writes_law c e i asked writes))

pub runs_have_asked_writes_law : RunsHaveAskedWrites
unfolding run
runs_have_asked_writes_law c es limits = asked_from es (opening c) (opening_is_cluster_law c limits) (opening_waits_as_asked_law c) (opening_has_asked_writes_law c)
