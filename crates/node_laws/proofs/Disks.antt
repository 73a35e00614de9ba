-- A disk keeps its pages and logs through calls that fit.
use Rattle.std.proofs.lemmas.List.{length-replicate}
use Rattle.std.proofs.Common.{◌≡◌, ◌∙◌, ℕ, zero, suc, ◌+◌, ◌==◌, Bool, true, false, List, [], ◌∷◌, ◌++◌, length, Option, Some, None, replicate, slice_set}
use Rattle.std.specs.Prelude.{IfSome, take, drop}
use Rattle.std.specs.List.{AllByRecursion, fold}
use Rattle.pcl_base.specs.Limits.{Sizes}
use Rattle.pcl_base.specs.declared.tx.TxId.{TxId}
use Rattle.run_rules.specs.Disk.{Disk, log_at}
use Rattle.node_rules.specs.Words.{pick}
use Rattle.node_rules.specs.DiskCalls.{DiskCall, WritePage, Force, TrimLog, CutLog, with_log, done, all_done, stopped, Left, forced, stopped_in, left_by, disk_or}
use Rattle.node_laws.specs.Nodes.{DiskFits, IsCall}
use Rattle.node_laws.specs.Laws.{FreshFits, CallsKeepDisk, StopsKeepDisk}
use Rattle.node_laws.proofs.Lists.{set_length}

all_set : {X : Type 0} (P : X → Type 0) (xs : List X) (i : ℕ) (y : X) → P y → AllByRecursion P xs → AllByRecursion P (slice_set xs i y)
all_set P [] i y new all = tt
all_set P (x ∷ xs) zero y new all = (new, all.1)
all_set P (x ∷ xs) (suc i) y new all = (all.0, all_set P xs i y new all.1)

module _ (c : Sizes) (n : ℕ) where
  log_fits : (d : Disk) (log : List ℕ) → DiskFits c d → DiskFits c (with_log d n log)
  log_fits d log fits = record { pages = fits.pages; logs = set_length d.logs n log ∙ fits.logs }

  done_fits : (d : Disk) (call : DiskCall) → IsCall c call → DiskFits c d → DiskFits c (done n d call)
  unfolding done
  done_fits d (WritePage p bytes) is fits =
      record {
        pages = (set_length d.pages p bytes ∙ fits.pages.0, all_set (λ (b : List ℕ). length b ≡ c.size + 16) d.pages p bytes is.1 fits.pages.1);
        logs = fits.logs;
      }
  done_fits d (Force t bytes) is fits = log_fits d (log_at d n ++ bytes) fits
  done_fits d (TrimLog keep) is fits = log_fits d (take keep (log_at d n)) fits
  done_fits d (CutLog count) is fits = log_fits d (drop count (log_at d n)) fits

  all_fit : (calls : List DiskCall) (d : Disk) → AllByRecursion (IsCall c) calls → DiskFits c d → DiskFits c (fold (done n) d calls)
  all_fit [] d are fits = fits
  all_fit (call ∷ calls) d are fits = all_fit calls (done n d call) are.1 (done_fits d call are.0 fits)

  picked_fits : (b : Bool) (x y : Disk) → DiskFits c x → DiskFits c y → DiskFits c (pick b x y)
  picked_fits true x y left right = left
  picked_fits false x y left right = right

  stopped_fits : (d : Disk) (call : DiskCall) (kept : ℕ) → IsCall c call → DiskFits c d → DiskFits c (stopped n d call kept)
  unfolding stopped
  stopped_fits d (Force t bytes) kept is fits = log_fits d (log_at d n ++ take kept bytes) fits
  stopped_fits d (WritePage p bytes) kept is fits = picked_fits (kept == 0) d (done n d (WritePage p bytes)) fits (done_fits d (WritePage p bytes) is fits)
  stopped_fits d (TrimLog keep) kept is fits = picked_fits (kept == 0) d (done n d (TrimLog keep)) fits (done_fits d (TrimLog keep) is fits)
  stopped_fits d (CutLog count) kept is fits = picked_fits (kept == 0) d (done n d (CutLog count)) fits (done_fits d (CutLog count) is fits)

  left_fits : (calls : List DiskCall) (d : Disk) (t : Option TxId) (before kept : ℕ) → AllByRecursion (IsCall c) calls → DiskFits c d → IfSome (stopped_in n d t calls before kept) (λ l. DiskFits c l.disk)
  unfolding stopped_in
  left_fits [] d t before kept are fits = tt
  left_fits (call ∷ calls) d None zero kept are fits = stopped_fits d call kept are.0 fits
  left_fits (call ∷ calls) d (Some t) zero kept are fits = stopped_fits d call kept are.0 fits
  left_fits (call ∷ calls) d t (suc before) kept are fits = left_fits calls (done n d call) (forced t call) before kept are.1 (done_fits d call are.0 fits)

  or_fits : (o : Option Left) (d : Disk) → IfSome o (λ l. DiskFits c l.disk) → DiskFits c d → DiskFits c (disk_or o d)
  or_fits None d is fits = fits
  or_fits (Some l) d is fits = is

all_repeated : {X : Type 0} (P : X → Type 0) (n : ℕ) (x : X) → P x → AllByRecursion P (replicate n x)
all_repeated P zero x is = tt
all_repeated P (suc n) x is = (is, all_repeated P n x is)

pub fresh_fits_law : FreshFits
fresh_fits_law c =
    record {
      pages = (
        length-replicate c.pages (replicate (c.size + 16) none),
        all_repeated (λ (b : List ℕ). length b ≡ c.size + 16) c.pages (replicate (c.size + 16) none) (length-replicate (c.size + 16) none),
      );
      logs = length-replicate c.nodes empty;
    }
  where
    none : ℕ
    none = 0

    empty : List ℕ
    empty = []

pub calls_keep_disk_law : CallsKeepDisk
calls_keep_disk_law c n d calls fits are = all_fit c n calls d are fits

pub stops_keep_disk_law : StopsKeepDisk
stops_keep_disk_law c n d calls s fits are = or_fits c n (left_by n d calls s) (all_done n d calls) (left_fits c n calls d None s.before s.kept are fits) (all_fit c n calls d are fits)
