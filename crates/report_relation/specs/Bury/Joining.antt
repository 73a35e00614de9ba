-- From what is known of all tables and births to what is needed of one page.
use Rattle.std.specs.Prelude.{◌≡◌, ◌⊎◌, ℕ, ◌<◌, ◌≤◌, true, Some}
use Rattle.std.specs.List.{AllByRecursion}
use Rattle.pcl_base.specs.declared.lock.Waiter.{Waiter}
use Rattle.run_rules.specs.Views.{View, born_of, since_of}
use Rattle.node_rules.specs.LockTable.{LockTable, PageEntry, entry_at, marked}
use Rattle.cluster_rules.specs.Clusters.{Cluster, last_view, view_of_epoch}
use Rattle.cluster_laws.specs.Sound.{IsCluster}
use Rattle.cluster_laws.specs.Era.Eras.{era_at}
use Rattle.related_runs.specs.Parties.{WaitLiving}
use Rattle.report_relation.specs.Bury.Whole.{WaitsFor}

-- each transaction that waits in a table is of a node whose report has come, or that was born after an era
abbrev pub WaitMarked : View → LockTable → ℕ → Type 0
WaitMarked v t era =
    AllByRecursion (λ (x : PageEntry). AllByRecursion (λ (y : Waiter). (marked t y.tx.node ≡ true) ⊎ (era < born_of v y.tx.node)) x.entry.waiting) t.entries

-- So it is known of those that wait for a page.
abbrev pub WaitersAreKnown : Type 0
WaitersAreKnown =
    (v : View) (t : LockTable) (p era : ℕ) → WaitLiving v t → WaitMarked v t era → AllByRecursion (WaitsFor v t era) (entry_at t p).waiting

-- Where a partition has a new era in a view, a birth whose era an earlier epoch has reached is of an earlier epoch than the view.
abbrev pub BirthsAreBeforeNewEras : Type 0
BirthsAreBeforeNewEras =
    (c : Cluster) (q birth epoch : ℕ) (v : View) → IsCluster c → view_of_epoch c.views v.epoch ≡ Some v → birth ≤ (last_view c).epoch → era_at c q birth ≤ era_at c q epoch
    → epoch < v.epoch → since_of v q ≡ v.epoch → birth < since_of v q
