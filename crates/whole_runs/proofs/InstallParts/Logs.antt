-- The logs that an install finds stay as they are, but for a torn rest.
use Rattle.std.proofs.Common.{◌≡◌, refl, ap, ◌∙◌, ℕ, ◌==◌, nat_lt, Bool, true, false, List, [], ◌∷◌, length, take}
use Rattle.pcl_base.specs.Limits.{Sizes}
use Rattle.pcl_base.specs.declared.event.Event.{Event}
use Rattle.text_rules.specs.LogRecord.{records_of, whole_len}
use Rattle.run_rules.specs.Disk.{Disk, log_at}
use Rattle.run_rules.specs.Redo.{all_records}
use Rattle.run_rules.specs.Views.{View, born_of, count_from}
use Rattle.redo_laws.proofs.Disks.{records_of_logs, records_same}
use Rattle.redo_laws.proofs.Logs.{records_trimmed}
use Rattle.node_rules.specs.DiskCalls.{TrimLog, all_done, done}
use Rattle.node_rules.specs.NodeState.{Install, NodeState, number_of}
use Rattle.node_rules.specs.Words.{pick}
use Rattle.node_rules.specs.Work.{Work}
use Rattle.node_laws.proofs.Lists.{set_length}
use Rattle.cluster_laws.specs.Call.Calls.{BeginsWith, on_log, trimmed}
use Rattle.cluster_rules.specs.Clusters.{Cluster}
use Rattle.report_relation.specs.Redoing.{records}
use Rattle.page_relation.specs.Work.Landing.{disk_of}
use Rattle.page_relation.proofs.WorkParts.Letting.{logs_after}
use Rattle.whole_runs.specs.Install.Turns.{IsTurn}
use Rattle.whole_runs.proofs.InstallParts.Standing.{cluster, member}

-- the records of all logs stay, and as many logs as there are nodes
pub record AreLogs (c : Cluster) (d : Disk) : Type 0 where
  pub same : all_records c.config d ≡ records c
  pub logs : length d.logs ≡ c.config.nodes

module _ (blank : List ℕ) (c : Cluster) (e : Event) (n p : ℕ) (s : NodeState) (v : View) (w : Work) (i : IsTurn blank c e n p s v w) where
  abbrev keep : ℕ
  keep = whole_len s.home.config (log_at c.disk (number_of s))

  long : length c.disk.logs ≡ c.config.nodes
  long = (cluster blank c e n p s v w i).disk.logs

  whole_part : records_of c.config (take keep (log_at c.disk n)) ≡ records_of c.config (log_at c.disk n)
  whole_part =
      let is = member blank c e n p s v w i in
      ap (λ (k : ℕ). records_of c.config (take k (log_at c.disk n))) (ap (λ (z : Sizes). whole_len z (log_at c.disk (number_of s))) is.config ∙ ap (λ (m : ℕ). whole_len c.config (log_at c.disk m)) is.number)
      ∙ records_trimmed c.config (log_at c.disk n)

  by_trim : (t : Bool) → AreLogs c (all_done n c.disk (pick t (TrimLog keep ∷ []) []))
  unfolding done
  by_trim true =
      record {
        same = records_same c.config c.disk n (take keep (log_at c.disk n)) (count_from 0 c.config.nodes) whole_part;
        logs = set_length c.disk.logs n (take keep (log_at c.disk n)) ∙ long;
      }
  by_trim false = record { same = refl; logs = long }

  by_birth : (b : Bool) → AreLogs c (all_done n c.disk (pick b (trimmed s c.disk) []))
  by_birth true = by_trim (nat_lt keep (length (log_at c.disk (number_of s))))
  by_birth false = record { same = refl; logs = long }

  pub same_logs : (x : Work) → BeginsWith (on_log s c.disk (Install v)) x.calls → AreLogs c (disk_of c n x)
  same_logs x calls =
      let first = by_birth (born_of v (number_of s) == v.epoch) in
      let after : (disk_of c n x).logs ≡ (all_done n c.disk (on_log s c.disk (Install v))).logs = logs_after n c.disk (on_log s c.disk (Install v)) x.calls calls in
      record {
        same = records_of_logs c.config (disk_of c n x) (all_done n c.disk (on_log s c.disk (Install v))) (count_from 0 c.config.nodes) after ∙ first.same;
        logs = ap (λ (ls : List (List ℕ)). length ls) after ∙ first.logs;
      }

  -- where the node was born before they are the same
  pub kept_logs : (born_of v (number_of s) == v.epoch) ≡ false → (x : Work) → BeginsWith (on_log s c.disk (Install v)) x.calls → (disk_of c n x).logs ≡ c.disk.logs
  kept_logs older x calls =
      logs_after n c.disk (on_log s c.disk (Install v)) x.calls calls ∙ ap (λ (b : Bool). (all_done n c.disk (pick b (trimmed s c.disk) [])).logs) older
