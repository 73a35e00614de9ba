-- All pages of a partition are redone.
use Rattle.std.specs.Prelude.{◌≡◌, ℕ, ◌<◌, List}
use Rattle.pcl_base.specs.declared.event.Event.{Event}
use Rattle.node_rules.specs.InstallRule.{redo_page}
use Rattle.node_rules.specs.LockTable.{pages_of}
use Rattle.node_rules.specs.NodeState.{partition}
use Rattle.node_rules.specs.Work.{Work, Goes, for_each}
use Rattle.cluster_rules.specs.Clusters.{Cluster}
use Rattle.page_protocol.specs.State.{Page}
use Rattle.page_protocol.specs.Steps.{Reached}
use Rattle.page_relation.specs.Work.Keeping.{IsWorkOf}
use Rattle.page_relation.specs.Work.Landing.{Acts}
use Rattle.report_relation.specs.Redoing.{MayRedo, RedoLeads, records}

-- The redo of all pages of its partition keeps the relation of a page, and leaves it on disk as it is now.
abbrev pub AllAreRedone : Type 0
AllAreRedone =
    (c : Cluster) (e : Event) (n p : ℕ) (blank : List ℕ) (w x : Work) (a : Page) → Acts c n → p < c.config.pages → Reached blank a
    → MayRedo c n (partition c.config p) w a → IsWorkOf c e n p w a
    → for_each (redo_page (records c) (partition c.config p)) (pages_of c.config (partition c.config p)) w ≡ Goes x
    → RedoLeads c e n p (partition c.config p) Unit a x
