-- No page differs that is read for completing a partition, or for a report.
use Rattle.std.specs.Prelude.{◌≡◌, ℕ, ◌<◌, List}
use Rattle.pcl_base.specs.declared.event.Event.{Event}
use Rattle.pcl_base.specs.declared.message.Body.TheVariants as body
use Rattle.pcl_base.specs.declared.message.Message.{Message}
use Rattle.pcl_base.specs.declared.message.Report.{Report}
use Rattle.node_rules.specs.InstallRule.{complete}
use Rattle.node_rules.specs.NodeState.{NodeState, Deliver, partition}
use Rattle.node_rules.specs.NodeStep.{do_event}
use Rattle.node_rules.specs.Work.{Work, Differs}
use Rattle.node_laws.proofs.Works.{Base}
use Rattle.cluster_rules.specs.Clusters.{Cluster}
use Rattle.cluster_laws.specs.Sound.{IsCluster}
use Rattle.cluster_laws.specs.Link.EpochLaws.{IsInOrder}
use Rattle.page_protocol.specs.State.{Page}
use Rattle.page_protocol.specs.Steps.{Reached}
use Rattle.page_relation.specs.Together.{IsParty}
use Rattle.page_relation.specs.Work.Events.{IsEntered}
use Rattle.page_relation.specs.Work.Keeping.{IsWorkOf}
use Rattle.page_relation.specs.Work.Landing.{Acts}
use Rattle.page_relation.specs.Work.StepEnds.{start_of}
use Rattle.settle_relation.specs.Arriving.{IsTakenIn}
use Rattle.settle_relation.specs.Midway.{IsMidway}
use Rattle.report_relation.specs.Completing.{NewHaveNoRight}
use Rattle.report_relation.specs.Completion.Completed.{MayBeWhole, Owns}
use Rattle.report_relation.specs.Completion.Reported.{MayTake}

-- a page of which the work has a state that may be completed
pub record CanComplete (blank : List ℕ) (c : Cluster) (e : Event) (n p q : ℕ) (w : Work) : Type 0 where
  pub page : Page
  pub reached : Reached blank page
  pub related : IsWorkOf c e n p w page
  pub entered : IsEntered page
  pub may : MayBeWhole c e n p q w page
  pub quiet : NewHaveNoRight c p

-- Where each page of the partition is such, none differs.
abbrev pub CompleteAgrees : Type 0
CompleteAgrees =
    (blank : List ℕ) (b : Base) (c : Cluster) (e : Event) (n q k expected found : ℕ) (w : Work) → Acts c n → IsInOrder c → q < c.config.nodes → Owns b q → IsMidway b c e n w
    → ((p : ℕ) → p < c.config.pages → partition c.config p ≡ q → CanComplete blank c e n p q w) → complete c.disk q w ≡ Differs k expected found → ⊥

-- Where each page of the cluster may take a report, none differs.
abbrev pub NoReportDiffers : Type 0
NoReportDiffers =
    (c : Cluster) (e : Event) (n from : ℕ) (s : NodeState) (m : Message) (r : Report) (blank : List ℕ) (page : ℕ → Page) (k expected found : ℕ) → IsCluster c
    → ((p : ℕ) → p < c.config.pages → IsTakenIn c e n p from s m blank (page p) × MayTake c e n p from s r (page p)) → IsParty c from n m → m.body ≡ body.Report r
    → do_event c.disk (Deliver from m) (start_of c s) ≡ Differs k expected found → ⊥
