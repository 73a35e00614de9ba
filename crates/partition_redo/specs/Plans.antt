-- A plan stays a plan while nothing that it was made from changes, and tells which pages it writes.
use Rattle.std.specs.Prelude.{◌≡◌, ℕ, ◌<◌, List, map, is_some}
use Rattle.std.specs.List.{AllByRecursion, filter}
use Rattle.pcl_base.specs.Limits.{Sizes}
use Rattle.text_rules.specs.LogRecord.{records_of}
use Rattle.run_rules.specs.Disk.{Disk, raw_page, log_at}
use Rattle.run_rules.specs.Redo.{all_records}
use Rattle.partition_redo.specs.declared.site.Chain.{Chain}
use Rattle.partition_redo.specs.Chains.{IsChain, IsNewer, AllStand, written_pages}
use Rattle.partition_redo.specs.Writes.{page_write}

-- two disks have the same stored pages of some chains, and the same whole records
pub record AreAlike (c : Sizes) (d e : Disk) (xs : List Chain) : Type 0 where
  pub pages : AllByRecursion (λ x. raw_page e.pages x.page ≡ raw_page d.pages x.page) xs
  pub records : (n : ℕ) → n < c.nodes → records_of c (log_at e n) ≡ records_of c (log_at d n)

-- Chains of one disk are chains of another that is alike.
abbrev pub ChainsStay : Type 0
ChainsStay = (c : Sizes) (d e : Disk) (xs : List Chain) → AreAlike c d e xs → AllByRecursion (IsChain c d) xs → AllByRecursion (IsChain c e) xs

-- Their entries stand in its logs.
abbrev pub EntriesStay : Type 0
EntriesStay = (c : Sizes) (d e : Disk) (xs : List Chain) → AreAlike c d e xs → AllStand c d xs → AllStand c e xs

-- Those that lead to newer pages do so on it.
abbrev pub NewerStay : Type 0
NewerStay = (c : Sizes) (d e : Disk) (xs : List Chain) → AreAlike c d e xs → AllByRecursion (IsNewer d) xs → AllByRecursion (IsNewer e) xs

-- The pages that are written are those of which redo writes something, in the same order.
abbrev pub NewerAreWritten : Type 0
NewerAreWritten =
    (c : Sizes) (d : Disk) (xs : List Chain) → AllByRecursion (IsChain c d) xs → AllByRecursion (IsNewer d) xs
    → written_pages xs ≡ filter (λ p. is_some (page_write (all_records c d) d.pages p)) (map (λ (x : Chain). x.page) xs)
