-- Storages that the rows of redo and durable are about.
use Rattle.std.specs.Prelude.{ℕ, List, [], ◌∷◌, ◌++◌, replicate}
use Rattle.pcl_base.specs.declared.log.Record.{Record}
use Rattle.pcl_base.specs.declared.log.Part.{Part}
use Rattle.pcl_base.specs.declared.log.Part.TheVariants.{Image, Ranges}
use Rattle.text_rules.specs.LogRecord.{record_bytes}
use Rattle.text_rules.specs.StoredPage.{stored_bytes}
use Rattle.run_rules.specs.Disk.{Disk}
use Rattle.run_rules.specs.Examples.{tx}

-- the record of a transaction that wrote one page
abbrev pub record_of : ℕ → ℕ → ℕ → Part → Record
record_of node page version part =
    record { tx = tx node 1; changes = record { page = page; version = version; part = part } ∷ [] }

-- what the first transaction of the plain path leaves in the log
abbrev pub plain_record : Record
plain_record = record_of 0 0 1 (Ranges (record { place = 2; bytes = 190 ∷ 239 ∷ [] } ∷ []))

-- one node's storage: the stored page and the log
abbrev pub one_disk : List ℕ → List ℕ → Disk
one_disk page log = record { pages = page ∷ []; logs = log ∷ [] }

-- a stored page that was never written
abbrev pub unwritten_page : List ℕ
unwritten_page = replicate 24 0

-- the plain path's page as it is after both transactions, at a version
abbrev pub stored_at : ℕ → List ℕ
stored_at version = stored_bytes 0 (record { version = version; bytes = 0 ∷ 0 ∷ 190 ∷ 239 ∷ 0 ∷ 0 ∷ 0 ∷ 0 ∷ [] })

-- Two nodes: page 0 is stored at version 1; the whole page at version 3 stands in the log of node
-- 1, changed ranges at versions 2, 4 and 6 in that of node 0.
abbrev pub two_logs : Disk
two_logs =
    record {
      pages =
          stored_bytes 0 (record { version = 1; bytes = replicate 8 1 }) ∷ unwritten_page ∷ unwritten_page ∷ unwritten_page
          ∷ [];
      logs =
          (record_bytes (record_of 0 0 2 (Ranges (record { place = 0; bytes = 2 ∷ [] } ∷ [])))
          ++ record_bytes (record_of 0 0 4 (Ranges (record { place = 1; bytes = 4 ∷ [] } ∷ [])))
          ++ record_bytes (record_of 0 0 6 (Ranges (record { place = 2; bytes = 6 ∷ [] } ∷ []))))
          ∷ record_bytes (record_of 1 0 3 (Image (replicate 8 3))) ∷ [];
    }
