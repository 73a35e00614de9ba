-- When pages and logs are as before for the plan of a partition.
use Rattle.std.specs.Prelude.{◌≡◌, ℕ, ◌<◌, Some}
use Rattle.pcl_base.specs.Limits.{Sizes}
use Rattle.text_rules.specs.LogRecord.{records_of}
use Rattle.text_rules.specs.MessageBytes.{IsPageOf}
use Rattle.run_rules.specs.Disk.{Disk, raw_page, log_at}
use Rattle.disk_model.specs.Disk.{Pages, Logs}

-- two disks have the same whole records in each log
abbrev pub HasSameRecords : Sizes → Disk → Disk → Type 0
HasSameRecords c d e = (n : ℕ) → n < c.nodes → records_of c (log_at e n) ≡ records_of c (log_at d n)

-- and the same pages of a partition
pub record IsSameFor (c : Sizes) (q : ℕ) (d e : Disk) : Type 0 where
  pub pages : (p : ℕ) → IsPageOf c q p → raw_page e.pages p ≡ raw_page d.pages p
  pub records : HasSameRecords c d e

-- logs that are told now were told before, with the same whole records
pub record WereLogs (c : Sizes) (logs : Logs) (e : Disk) : Type 0 where
  pub d : Disk
  pub told : logs ≡ Some d.logs
  pub same : HasSameRecords c d e

-- the same of a disk, with the pages of a partition
pub record WasDisk (c : Sizes) (q : ℕ) (pages : Pages) (logs : Logs) (e : Disk) : Type 0 where
  pub d : Disk
  pub pages_told : pages ≡ Some d.pages
  pub logs_told : logs ≡ Some d.logs
  pub same : IsSameFor c q d e

-- what is told later is the same for the plan of a partition
pub record StaysFor (c : Sizes) (q : ℕ) (pages : Pages) (logs : Logs) (later : Pages) (more : Logs) : Type 0 where
  pub for_logs : (e : Disk) → more ≡ Some e.logs → WereLogs c logs e
  pub for_disk : (e : Disk) → later ≡ Some e.pages → more ≡ Some e.logs → WasDisk c q pages logs e
