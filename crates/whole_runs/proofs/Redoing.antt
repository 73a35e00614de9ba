-- Installs and reports, from a cluster of a run.
use Rattle.std.proofs.Common.{ℕ, List}
use Rattle.cluster_rules.specs.Clusters.{Cluster}
use Rattle.whole_runs.specs.Rest.Closing.{RedoingKeeps}
use Rattle.whole_runs.proofs.RestParts.Left.{redoing_is_left_law}
use Rattle.whole_runs.proofs.InstallParts.Installed.{installs_act_on_law}
use Rattle.whole_runs.proofs.ReportParts.Kept.{reports_keep_law}
use Rattle.whole_runs.specs.Runs.{IsKnownRun, StepsKeepPages}

redoing : (blank : List ℕ) (c : Cluster) → IsKnownRun blank c → RedoingKeeps blank c
redoing blank c k = record { installs = λ v. installs_act_on_law blank c v k.facts; reports = λ from m r same. reports_keep_law blank c k.run k.facts from m r same }

pub steps_keep_pages_law : StepsKeepPages
steps_keep_pages_law blank c e k = redoing_is_left_law blank c e (redoing blank c k) k.run
