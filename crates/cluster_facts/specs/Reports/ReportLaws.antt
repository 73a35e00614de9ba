-- Laws of reports on links, and of the tables where they come to.
use Rattle.std.specs.Prelude.{◌≡◌, ◌≢◌, ℕ, ◌<◌, ◌≤◌, true, false, List, ◌∷◌, Some}
use Rattle.pcl_base.specs.Limits.{Sizes}
use Rattle.pcl_base.specs.declared.event.Event.{Event}
use Rattle.pcl_base.specs.declared.message.Body.TheVariants as body
use Rattle.pcl_base.specs.declared.message.Message.{Message}
use Rattle.pcl_base.specs.declared.message.Report.{Report}
use Rattle.run_rules.specs.Views.{View, is_live, since_of, born_of}
use Rattle.node_rules.specs.LockTable.{LockTable, marked}
use Rattle.node_rules.specs.NodeState.{NodeState, table_at}
use Rattle.node_rules.specs.Reports.{is_missing}
use Rattle.cluster_rules.specs.Clusters.{Cluster, opening, node_at}
use Rattle.cluster_rules.specs.ClusterStep.{step}
use Rattle.cluster_rules.specs.Links.{link_at}
use Rattle.cluster_laws.specs.Sound.{IsCluster}
use Rattle.cluster_laws.specs.Era.Eras.{era_at}
use Rattle.cluster_laws.specs.Era.Counts.{counts_in}
use Rattle.cluster_laws.specs.Link.Coming.{Stands}
use Rattle.cluster_laws.specs.Link.EpochLaws.{IsInOrder}
use Rattle.related_runs.specs.Parties.{HaveParties}
use Rattle.cluster_facts.specs.Reports.Reported.{HasReport, HaveReports}

-- the opening cluster
abbrev pub OpeningHasReports : Type 0
OpeningHasReports = (c : Sizes) → HaveReports (opening c)

-- a step on any event
abbrev pub StepsKeepReports : Type 0
StepsKeepReports = (c : Cluster) (e : Event) → IsCluster c → IsInOrder c → HaveReports c → HaveReports (step c e)

-- a report that comes to a table which is being rebuilt, for its era, is one that is missing there
pub record IsAwaited (v : View) (t : LockTable) (q n m e : ℕ) : Type 0 where
  pub epoch : e ≡ since_of v q
  pub unmarked : marked t m ≡ false
  pub other : m ≢ n
  pub live : is_live v.live m ≡ true
  pub born : born_of v m ≤ since_of v q
  pub missing : is_missing t v q m ≡ true

-- So each report of the era of a table that is being rebuilt, which counts, is missing.
abbrev pub ReportsAreAwaited : Type 0
ReportsAreAwaited =
    (c : Cluster) (n : ℕ) (s : NodeState) (v : View) (q : ℕ) (t : LockTable) (from : ℕ) (m : Message) (r : Report) → IsCluster c → HaveParties c → HaveReports c
    → node_at c n ≡ Some s → s.view ≡ Some v → q < c.config.nodes → table_at s q ≡ Some t → t.serving ≡ false
    → Stands (link_at c.links from n) m → m.body ≡ body.Report r → r.partition ≡ q → counts_in (Some s) from q m.epoch ≡ true → era_at c q m.epoch ≡ since_of v q
    → IsAwaited v t q n from m.epoch

-- behind a report at the head of a link there is no other one of its partition for its era, or an earlier one
abbrev pub ReportsAreOnce : Type 0
ReportsAreOnce =
    (c : Cluster) (a b q era : ℕ) (m : Message) (r : Report) (ms : List Message) → HaveReports c → link_at c.links a b ≡ m ∷ ms → m.body ≡ body.Report r → r.partition ≡ q → era ≤ m.epoch
    → HasReport q era ms → ⊥
