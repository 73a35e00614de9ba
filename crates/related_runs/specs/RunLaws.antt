-- Clusters of runs, and steps that keep the pages of such a cluster related.
use Rattle.std.specs.Prelude.{◌≡◌, ℕ, ◌<◌, true, List}
use Rattle.pcl_base.specs.Limits.{Sizes, InLimits}
use Rattle.pcl_base.specs.declared.event.Event.{Event}
use Rattle.pcl_base.specs.declared.tx.TxId.{TxId}
use Rattle.cluster_rules.specs.Clusters.{Cluster, opening}
use Rattle.cluster_rules.specs.ClusterStep.{step}
use Rattle.pcl_base.specs.declared.tx.Mode.TheVariants.{Exclusive}
use Rattle.page_protocol.specs.Bytes.{writes}
use Rattle.page_protocol.specs.State.{Page, Holding}
use Rattle.page_relation.specs.Laws.{blank}
use Rattle.page_relation.specs.Together.{HasPages, IsRelated}
use Rattle.page_relation.specs.Work.Events.{IsEntered}
use Rattle.related_runs.specs.Locks.Used.{HaveUsedLocks}
use Rattle.related_runs.specs.Parties.{HaveLiving}
use Rattle.related_runs.specs.Parts.{HaveSerials, HaveWithin}

-- Who holds the page exclusively has written it.
abbrev pub HaveWritten : Page → Type 0
HaveWritten a = (t : TxId) → a.home t ≡ Holding Exclusive → writes (a.script t) ≡ true

-- What holds of the states of pages between two events, while the machine of one page comes through others:
-- the owner's dirty copy isn't newer than the entry, and who holds exclusively has written.
pub record AreBetween (c : Cluster) (page : ℕ → Page) : Type 0 where
  pub entered : (p : ℕ) → p < c.config.pages → IsEntered (page p)
  pub wrote : (p : ℕ) → p < c.config.pages → HaveWritten (page p)

-- What holds of each cluster of such a run: it is related, and beside its pages nothing is missing.
pub record IsOfRun (blank : List ℕ) (c : Cluster) : Type 0 where
  pub related : IsRelated blank c
  pub between : AreBetween c related.pages.page
  pub serials : HaveSerials c
  pub living : HaveLiving c
  pub within : HaveWithin c
  pub used : HaveUsedLocks c

-- each page is related to a state that its machine reaches, and that may stand between two events
pub record LeavesPages (blank : List ℕ) (c : Cluster) : Type 0 where
  pub pages : HasPages blank c
  pub between : AreBetween c pages.page

-- The opening cluster is one.
abbrev pub OpeningIsOfRun : Type 0
OpeningIsOfRun = (c : Sizes) → InLimits c → IsOfRun (blank c) (opening c)

-- Where a step leaves the pages so, all else is kept too.
abbrev pub StepsGoOn : Type 0
StepsGoOn = (blank : List ℕ) (c : Cluster) (e : Event) → LeavesPages blank (step c e) → IsOfRun blank c → IsOfRun blank (step c e)
