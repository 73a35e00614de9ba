-- The calls of an install leave the logs, or trim the torn rest of one: their records stay.
use Rattle.std.proofs.Common.{◌≡◌, refl, ap, sym, subst, ◌∙◌, ℕ, ◌<◌, ◌==◌, nat_lt, Bool, true, false, List, [], ◌∷◌, ◌++◌, length, take}
use Rattle.std.proofs.lemmas.List.Sums.{fold-append}
use Rattle.pcl_base.specs.Limits.{Sizes}
use Rattle.text_rules.specs.LogRecord.{records_of, whole_len}
use Rattle.run_rules.specs.Disk.{Disk, log_at}
use Rattle.run_rules.specs.Redo.{all_records, records_in}
use Rattle.run_rules.specs.Views.{View, born_of, count_from}
use Rattle.node_rules.specs.DiskCalls.{DiskCall, TrimLog, all_done, done}
use Rattle.node_rules.specs.NodeState.{NodeState, Install, number_of}
use Rattle.node_rules.specs.Words.{pick}
use Rattle.node_rules.specs.Work.{Work}
use Rattle.node_laws.proofs.Lists.{set_at, set_length}
use Rattle.redo_laws.proofs.Logs.{records_trimmed}
use Rattle.cluster_rules.specs.Clusters.{Cluster}
use Rattle.cluster_laws.specs.Call.Calls.{BeginsWith, on_log, trimmed}
use Rattle.cluster_laws.proofs.CallParts.Disks.{writes_keep_logs_law}
use Rattle.page_relation.specs.Work.Landing.{disk_of}
use Rattle.report_relation.specs.Redoing.{records}

-- the records of logs by the logs
records_by : (c : Sizes) (d f : Disk) → ((m : ℕ) → records_of c (log_at f m) ≡ records_of c (log_at d m)) → (ms : List ℕ) → records_in c f ms ≡ records_in c d ms
unfolding records_in
records_by c d f same [] = refl
records_by c d f same (m ∷ ms) = (λ i. same m i ++ records_by c d f same ms i)

-- two disks whose logs have the same records, and as many
record SameLogs (c : Sizes) (d f : Disk) : Type 0 where
  records : (m : ℕ) → records_of c (log_at f m) ≡ records_of c (log_at d m)
  many : length f.logs ≡ length d.logs

same_logs : (c : Sizes) (d f : Disk) → f.logs ≡ d.logs → SameLogs c d f
same_logs c d f same = record { records = λ m. ap (λ (ls : List (List ℕ)). records_of c (log_at (record { pages = f.pages; logs = ls }) m)) same; many = ap (λ (ls : List (List ℕ)). length ls) same }

trim_same : (c : Sizes) (d : Disk) (n : ℕ) → n < length d.logs → SameLogs c d (done n d (TrimLog (whole_len c (log_at d n))))
unfolding done
trim_same c d n low =
    record {
      records = λ m.
          set_at (λ (log : List ℕ). records_of c log ≡ records_of c (log_at d m)) [] d.logs n m (take (whole_len c (log_at d n)) (log_at d n)) low
          (λ same. records_trimmed c (log_at d n) ∙ ap (λ (k : ℕ). records_of c (log_at d k)) (sym same)) (λ other. refl);
      many = set_length d.logs n (take (whole_len c (log_at d n)) (log_at d n));
    }

same_then : (c : Sizes) (d f g : Disk) → SameLogs c d f → SameLogs c f g → SameLogs c d g
same_then c d f g one two = record { records = λ m. two.records m ∙ one.records m; many = two.many ∙ one.many }

-- the calls on the log at the beginning of a life, if it begins
module _ (c : Cluster) (n : ℕ) (s : NodeState) (v : View) (config : s.home.config ≡ c.config) (number : number_of s ≡ n) (room : n < length c.disk.logs) where
  front_same : (x : Bool) → SameLogs c.config c.disk (all_done n c.disk (pick x (trimmed s c.disk) []))
  front_same false = same_logs c.config c.disk c.disk refl
  front_same true = by (nat_lt (whole_len s.home.config (log_at c.disk (number_of s))) (length (log_at c.disk (number_of s))))
    where
      trims : SameLogs c.config c.disk (done n c.disk (TrimLog (whole_len s.home.config (log_at c.disk (number_of s)))))
      trims =
          subst (λ (k : Sizes). SameLogs c.config c.disk (done n c.disk (TrimLog (whole_len k (log_at c.disk (number_of s)))))) (sym config)
          (subst (λ (m : ℕ). SameLogs c.config c.disk (done n c.disk (TrimLog (whole_len c.config (log_at c.disk m))))) (sym number) (trim_same c.config c.disk n room))

      by : (b : Bool) → SameLogs c.config c.disk (all_done n c.disk (pick b (TrimLog (whole_len s.home.config (log_at c.disk (number_of s))) ∷ []) []))
      by true = trims
      by false = same_logs c.config c.disk c.disk refl

  calls_same : (w : Work) → BeginsWith (on_log s c.disk (Install v)) w.calls → SameLogs c.config c.disk (disk_of c n w)
  calls_same w is =
      subst (SameLogs c.config c.disk) (sym (ap (all_done n c.disk) is.joined ∙ fold-append (done n) c.disk front is.writes))
      (same_then c.config c.disk (all_done n c.disk front) (all_done n (all_done n c.disk front) is.writes) (front_same (born_of v (number_of s) == v.epoch))
      (same_logs c.config (all_done n c.disk front) (all_done n (all_done n c.disk front) is.writes) (writes_keep_logs_law n (all_done n c.disk front) is.writes is.all)))
    where
      front : List DiskCall
      front = on_log s c.disk (Install v)

  -- the records of all logs
  pub records_stay : (w : Work) → BeginsWith (on_log s c.disk (Install v)) w.calls → all_records c.config (disk_of c n w) ≡ records c
  records_stay w is = records_by c.config c.disk (disk_of c n w) (calls_same w is).records (count_from 0 c.config.nodes)

  pub logs_stay : (w : Work) → BeginsWith (on_log s c.disk (Install v)) w.calls → length (disk_of c n w).logs ≡ length c.disk.logs
  logs_stay w is = (calls_same w is).many

  -- the logs, where the node goes on
  pub logs_same : (w : Work) → (born_of v (number_of s) == v.epoch) ≡ false → BeginsWith (on_log s c.disk (Install v)) w.calls → (disk_of c n w).logs ≡ c.disk.logs
  logs_same w old is =
      ap (λ (d : Disk). d.logs) (ap (all_done n c.disk) (is.joined ∙ ap (λ (b : Bool). pick b (trimmed s c.disk) [] ++ is.writes) old))
      ∙ writes_keep_logs_law n c.disk is.writes is.all
