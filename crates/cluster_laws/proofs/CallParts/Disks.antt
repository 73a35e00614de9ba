-- Logs through calls and stops.
use Rattle.std.proofs.Common.{◌≡◌, ◌≢◌, refl, ap, sym, subst, ◌∙◌, ℕ, zero, suc, ◌<◌, ◌==◌, Bool, true, false, List, [], ◌∷◌, ◌++◌, length, take, drop, Option, Some, None}
use Rattle.std.specs.List.{fold}
use Rattle.pcl_base.specs.declared.tx.TxId.{TxId}
use Rattle.run_rules.specs.Disk.{Disk, log_at}
use Rattle.node_rules.specs.Words.{pick}
use Rattle.node_rules.specs.DiskCalls.{DiskCall, WritePage, Force, TrimLog, CutLog, Left, with_log, done, stopped, forced, left_at, stopped_in}
use Rattle.node_laws.proofs.Lists.{set_look, set_same, set_length}
use Rattle.cluster_laws.specs.Call.Calls.{log_by}
use Rattle.cluster_laws.specs.Call.CallLaws.{WritesKeepLogs, CallsKeepOtherLogs, CallsChangeLog, StopsKeepOtherLogs}

-- another log of a node
other_log : (d : Disk) (n m : ℕ) (log : List ℕ) → m ≢ n → log_at (with_log d n log) m ≡ log_at d m
other_log d n m log other = set_look (λ (x : List ℕ). x ≡ log_at d m) [] d.logs n m log (λ same. absurd (other same)) refl

done_other : (n m : ℕ) (d : Disk) (call : DiskCall) → m ≢ n → log_at (done n d call) m ≡ log_at d m
unfolding done
done_other n m d (WritePage p bytes) other = refl
done_other n m d (Force t bytes) other = other_log d n m (log_at d n ++ bytes) other
done_other n m d (TrimLog keep) other = other_log d n m (take keep (log_at d n)) other
done_other n m d (CutLog count) other = other_log d n m (drop count (log_at d n)) other

pub calls_keep_other_logs_law : CallsKeepOtherLogs
calls_keep_other_logs_law n m d [] other = refl
calls_keep_other_logs_law n m d (call ∷ calls) other = calls_keep_other_logs_law n m (done n d call) calls other ∙ done_other n m d call other

pub writes_keep_logs_law : WritesKeepLogs
unfolding done
writes_keep_logs_law n d [] all = refl
writes_keep_logs_law n d (WritePage p bytes ∷ calls) all = writes_keep_logs_law n (done n d (WritePage p bytes)) calls all.1
writes_keep_logs_law n d (Force t bytes ∷ calls) all = absurd all.0
writes_keep_logs_law n d (TrimLog keep ∷ calls) all = absurd all.0
writes_keep_logs_law n d (CutLog count ∷ calls) all = absurd all.0

-- the own log
own_log : (d : Disk) (n : ℕ) (log : List ℕ) → n < length d.logs → log_at (with_log d n log) n ≡ log
own_log d n log low = set_same [] d.logs n log low

done_own : (n : ℕ) (d : Disk) (call : DiskCall) → n < length d.logs → log_at (done n d call) n ≡ log_by (log_at d n) call
unfolding done
done_own n d (WritePage p bytes) low = refl
done_own n d (Force t bytes) low = own_log d n (log_at d n ++ bytes) low
done_own n d (TrimLog keep) low = own_log d n (take keep (log_at d n)) low
done_own n d (CutLog count) low = own_log d n (drop count (log_at d n)) low

done_long : (n : ℕ) (d : Disk) (call : DiskCall) → length (done n d call).logs ≡ length d.logs
unfolding done
done_long n d (WritePage p bytes) = refl
done_long n d (Force t bytes) = set_length d.logs n (log_at d n ++ bytes)
done_long n d (TrimLog keep) = set_length d.logs n (take keep (log_at d n))
done_long n d (CutLog count) = set_length d.logs n (drop count (log_at d n))

pub calls_change_log_law : CallsChangeLog
calls_change_log_law n d [] low = refl
calls_change_log_law n d (call ∷ calls) low =
    calls_change_log_law n (done n d call) calls (subst (λ (k : ℕ). n < k) (sym (done_long n d call)) low)
    ∙ ap (λ (log : List ℕ). fold log_by log calls) (done_own n d call low)

-- a stopped call
choose : (b : Bool) (d e : Disk) (m : ℕ) (log : List ℕ) → log_at d m ≡ log → log_at e m ≡ log → log_at (pick b d e) m ≡ log
choose true d e m log p q = p
choose false d e m log p q = q

stopped_other : (n m : ℕ) (d : Disk) (call : DiskCall) (kept : ℕ) → m ≢ n → log_at (stopped n d call kept) m ≡ log_at d m
unfolding stopped
stopped_other n m d (WritePage p bytes) kept other = choose (kept == 0) d (done n d (WritePage p bytes)) m (log_at d m) refl (done_other n m d (WritePage p bytes) other)
stopped_other n m d (Force t bytes) kept other = other_log d n m (log_at d n ++ take kept bytes) other
stopped_other n m d (TrimLog keep) kept other = choose (kept == 0) d (done n d (TrimLog keep)) m (log_at d m) refl (done_other n m d (TrimLog keep) other)
stopped_other n m d (CutLog count) kept other = choose (kept == 0) d (done n d (CutLog count)) m (log_at d m) refl (done_other n m d (CutLog count) other)

left_other : (n m : ℕ) (d : Disk) (t : Option TxId) (call : DiskCall) (kept : ℕ) → m ≢ n → log_at (left_at n d t call kept).disk m ≡ log_at d m
left_other n m d None call kept other = stopped_other n m d call kept other
left_other n m d (Some t) call kept other = stopped_other n m d call kept other

stopped_in_other : (n m : ℕ) (d : Disk) (t : Option TxId) (calls : List DiskCall) (before kept : ℕ) (l : Left) → m ≢ n → stopped_in n d t calls before kept ≡ Some l → log_at l.disk m ≡ log_at d m
unfolding stopped_in
stopped_in_other n m d t [] before kept l other e = absurd (cc)
stopped_in_other n m d t (call ∷ calls) zero kept l other e =
    let same : left_at n d t call kept ≡ l = cc in
    subst (λ (x : Left). log_at x.disk m ≡ log_at d m) same (left_other n m d t call kept other)
stopped_in_other n m d t (call ∷ calls) (suc before) kept l other e =
    stopped_in_other n m (done n d call) (forced t call) calls before kept l other e ∙ done_other n m d call other

pub stops_keep_other_logs_law : StopsKeepOtherLogs
stops_keep_other_logs_law n m d calls s l other e = stopped_in_other n m d None calls s.before s.kept l other e
