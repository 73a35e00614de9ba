-- The calls that change the pages and logs on disk, and what a stop within a step leaves.
use Rattle.std.specs.Prelude.{◌≡◌, ℕ, zero, suc, ◌==◌, nat_le, List, [], ◌∷◌, ◌++◌, length, take, drop, slice_set, Option, Some, None}
use Rattle.std.specs.List.{fold}
use Rattle.pcl_base.specs.declared.tx.TxId.{TxId}
use Rattle.pcl_base.specs.declared.trace.Call.{Call}
use Rattle.pcl_base.specs.declared.trace.Call.TheVariants as call
use Rattle.run_rules.specs.Disk.{Disk, log_at}
use Rattle.node_rules.specs.Words.{pick}

-- the changing calls of a node: it writes a page, appends the record of a transaction to its log,
-- keeps the first bytes of its log, or cuts some from its front
pub data DiskCall : Type 0 where
  WritePage : ℕ → List ℕ → DiskCall
  Force : TxId → List ℕ → DiskCall
  TrimLog : ℕ → DiskCall
  CutLog : ℕ → DiskCall

-- the word of a call
abbrev pub word_of : DiskCall → Call
word_of (WritePage p bytes) = call.Write
word_of (Force t bytes) = call.Force
word_of (TrimLog keep) = call.Trim
word_of (CutLog count) = call.Cut

-- another log of a node
abbrev pub with_log : Disk → ℕ → List ℕ → Disk
with_log d n log = record d { logs = slice_set d.logs n log }

-- the disk after a call of node n
unfoldable pub done : ℕ → Disk → DiskCall → Disk
done n d (WritePage p bytes) = record d { pages = slice_set d.pages p bytes }
done n d (Force t bytes) = with_log d n (log_at d n ++ bytes)
done n d (TrimLog keep) = with_log d n (take keep (log_at d n))
done n d (CutLog count) = with_log d n (drop count (log_at d n))

-- the disk after calls of node n, one after the other
abbrev pub all_done : ℕ → Disk → List DiskCall → Disk
all_done n d calls = fold (done n) d calls

-- what a stopped call leaves, by the number of the stop: a force keeps so many bytes, each other
-- call is undone at 0 and else done
unfoldable pub stopped : ℕ → Disk → DiskCall → ℕ → Disk
stopped n d (Force t bytes) kept = with_log d n (log_at d n ++ take kept bytes)
stopped n d call kept = pick (kept == 0) d (done n d call)

-- the transaction whose whole record a stopped call has appended
abbrev pub kept_of : DiskCall → ℕ → Option TxId
kept_of (Force t bytes) kept = pick (nat_le (length bytes) kept) (Some t) None
kept_of call kept = None

-- a stop: how many calls are done before the call that it stops, and what that one keeps
pub record Stop : Type 0 where
  pub before : ℕ
  pub kept : ℕ

-- what a stop within a step leaves: the disk, the word of the call, and the transaction whose whole
-- record was appended in the step
pub record Left : Type 0 where
  pub disk : Disk
  pub call : Call
  pub kept : Option TxId

-- the transaction of a force, once that is done
abbrev pub forced : Option TxId → DiskCall → Option TxId
forced old (Force t bytes) = Some t
forced old call = old

-- what a stop at a call leaves, where a record may have been appended before
abbrev pub left_at : ℕ → Disk → Option TxId → DiskCall → ℕ → Left
left_at n d None call kept = record { disk = stopped n d call kept; call = word_of call; kept = kept_of call kept }
left_at n d (Some t) call kept = record { disk = stopped n d call kept; call = word_of call; kept = Some t }

-- what a stop leaves of a step with these calls; none where the step has too few of them
unfoldable pub stopped_in : ℕ → Disk → Option TxId → List DiskCall → ℕ → ℕ → Option Left
stopped_in n d t [] before kept = None
stopped_in n d t (call ∷ calls) zero kept = Some (left_at n d t call kept)
stopped_in n d t (call ∷ calls) (suc before) kept = stopped_in n (done n d call) (forced t call) calls before kept

-- what a stop leaves of a step of node n with these calls
abbrev pub left_by : ℕ → Disk → List DiskCall → Stop → Option Left
left_by n d calls s = stopped_in n d None calls s.before s.kept

-- the disk that a stop leaves; where the step has too few calls, all of them are done
abbrev pub disk_or : Option Left → Disk → Disk
disk_or None d = d
disk_or (Some l) d = l.disk

-- the disk that a stop leaves of a step
abbrev pub disk_left : ℕ → Disk → List DiskCall → Stop → Disk
disk_left n d calls s = disk_or (left_by n d calls s) (all_done n d calls)

-- the disks that a step may leave where some device call fails: so many changing calls are done, and
-- the one that fails may have been done, or in part
abbrev pub MayLeave : ℕ → Disk → List DiskCall → Disk → Type 0
MayLeave n d calls after = (s : Stop) × (after ≡ disk_left n d calls s)
