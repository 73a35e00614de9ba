-- A small storage, for computed rows.
use Rattle.std.specs.Prelude.{ℕ, List, [], ◌∷◌, ◌++◌, take, Option}
use Rattle.pcl_base.specs.Limits.{Sizes}
use Rattle.pcl_base.specs.declared.log.Logged.{Logged}
use Rattle.pcl_base.specs.declared.log.Part.TheVariants.{Image, Ranges as Changed}
use Rattle.pcl_base.specs.declared.tx.TxId.{TxId}
use Rattle.text_rules.specs.LogRecord.{record_bytes}
use Rattle.text_rules.specs.StoredPage.{stored_bytes}
use Rattle.run_rules.specs.Disk.{Disk}
use Rattle.page_protocol.specs.Bytes.{Ranges}
use Rattle.page_laws.specs.Storage.Looks.{log_of}

-- two nodes, and two pages of two bytes
abbrev pub small : Sizes
small = record { nodes = 2; pages = 2; size = 2; frames = 2 }

-- a transaction of a node
abbrev pub tx : ℕ → TxId
tx node = record { node = node; born = 1; serial = 1 }

-- one changed byte of a page
abbrev pub byte_of : ℕ → ℕ → ℕ → ℕ → Logged
byte_of page version place byte =
    record { page = page; version = version; part = Changed (record { place = place; bytes = byte ∷ [] } ∷ []) }

-- a whole page
abbrev pub page_at : ℕ → List ℕ → Logged
page_at version bytes = record { page = 0; version = version; part = Image bytes }

-- the record of a node with these changes
abbrev pub changes : ℕ → List Logged → List ℕ
changes node xs = record_bytes (record { tx = tx node; changes = xs })

-- Page 0 stands at version 1, and in place of page 1 stands another. Node 0 has logged version 2 of page 0
-- with version 1 of page 1, and then version 4; node 1 version 3 of page 0, and a piece of a further record.
abbrev pub stored : Disk
stored =
    record {
      pages = stored_bytes 0 (record { version = 1; bytes = 7 ∷ 8 ∷ [] }) ∷ stored_bytes 0 (record { version = 1; bytes = 7 ∷ 8 ∷ [] }) ∷ [];
      logs =
          (changes 0 (byte_of 0 2 1 9 ∷ byte_of 1 1 0 6 ∷ []) ++ changes 0 (byte_of 0 4 0 5 ∷ []))
          ∷ (changes 1 (byte_of 0 3 0 3 ∷ []) ++ take 20 (changes 1 (byte_of 0 5 0 3 ∷ [])))
          ∷ [];
    }

-- what the logs have of page 0
abbrev pub logs : ℕ → ℕ → Option Ranges
logs n v = log_of small stored n 0 v
