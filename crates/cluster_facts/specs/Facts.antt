-- What holds of every cluster of a run beside the relation of its pages, and what installs and reports need of it.
use Rattle.std.specs.Prelude.{ℕ, List}
use Rattle.pcl_base.specs.Limits.{Sizes}
use Rattle.pcl_base.specs.declared.event.Event.{Event}
use Rattle.cluster_rules.specs.Clusters.{Cluster, opening}
use Rattle.cluster_rules.specs.ClusterStep.{step}
use Rattle.page_relation.specs.Together.{HasPages}
use Rattle.related_runs.specs.RunLaws.{IsOfRun}
use Rattle.cluster_facts.specs.Waiting.Reached.{HaveReached}
use Rattle.cluster_facts.specs.Table.Lives.{HaveTableLives}
use Rattle.cluster_facts.specs.Known.Births.{HaveKnownBirths}
use Rattle.cluster_facts.specs.Reports.Unviewed.{NoRightsUnviewed}
use Rattle.cluster_facts.specs.Reports.Reported.{HaveReports}
use Rattle.cluster_facts.specs.Reports.Marked.{WaitersAreMarked}

-- Who waits at a table has reached its era; its holders and the nodes with a right are living; a node in no view has no
-- right; reports come first and once, and who waits before they are all there is of a node that is marked or new; and
-- each node knows the births of those who have used a partition.
pub record HaveFacts (c : Cluster) : Type 0 where
  pub reached : HaveReached c
  pub tables : HaveTableLives c
  pub unviewed : NoRightsUnviewed c
  pub reports : HaveReports c
  pub marked : WaitersAreMarked c
  pub births : HaveKnownBirths c

-- the opening cluster
abbrev pub OpeningHasFacts : Type 0
OpeningHasFacts = (c : Sizes) → HaveFacts (opening c)

-- a step on any event, which leaves the pages related
abbrev pub StepsHaveFacts : Type 0
StepsHaveFacts = (blank : List ℕ) (c : Cluster) (e : Event) → IsOfRun blank c → HasPages blank (step c e) → HaveFacts c → HaveFacts (step c e)
