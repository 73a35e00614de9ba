-- Slots, copies, rights and calls for computed rows.
use Rattle.std.specs.Prelude.{ℕ, Bool, true, false, List, [], ◌∷◌, Option, Some, None}
use Rattle.pcl_base.specs.declared.log.Part.{Part}
use Rattle.pcl_base.specs.declared.log.Part.TheVariants.{Ranges}
use Rattle.pcl_base.specs.declared.log.Record.{Record}
use Rattle.text_rules.specs.StoredPage.{PageAt}
use Rattle.run_rules.specs.Views.{View}
use Rattle.node_rules.specs.BufferRule.{Slot, Pool, PrivateCopy}
use Rattle.node_rules.specs.NodeState.{Run}
use Rattle.run_rules.specs.Disk.{Disk}
use Rattle.node_rules.specs.DiskCalls.{DiskCall, Force, WritePage, TrimLog}
use Rattle.node_rules.specs.LockRows.{a}

-- a copy of a page at version 5, clean or dirty; and a place
abbrev pub copied : Bool → ℕ → ℕ → Slot
copied dirty page pins = record { page = page; copy = Some (record { version = 5; bytes = 1 ∷ 2 ∷ []; dirty = dirty }); pins = pins }

-- a place
abbrev pub empty : ℕ → ℕ → Slot
empty page pins = record { page = page; copy = None; pins = pins }

-- four frames of two bytes
abbrev pub four : List Slot → List PrivateCopy → Pool
four ss ps = record { frames = 4; size = 2; slots = ss; privates = ps }

-- the private copy of page 7 of a transaction
abbrev pub private_seven : Option (List ℕ) → PrivateCopy
private_seven bytes = record { tx = a; page = 7; bytes = bytes }

-- a run of places
abbrev pub from_to : ℕ → ℕ → Run
from_to i j = record { from = i; to = j }

-- a view of epoch 4: node 1 came back at 3, node 2 is lost, and partition 1 was moved at 4
abbrev pub fourth : View
fourth =
    record {
      epoch = 4;
      live = true ∷ true ∷ false ∷ [];
      owners = 0 ∷ 0 ∷ 1 ∷ [];
      since = 1 ∷ 4 ∷ 3 ∷ [];
      born = 1 ∷ 3 ∷ 1 ∷ [];
    }

-- a page of two bytes, and entries of logs that make it newer
abbrev pub at_version : ℕ → List ℕ → PageAt
at_version v bytes = record { version = v; bytes = bytes }

-- a record of one changed page
abbrev pub changed : ℕ → ℕ → Part → Record
changed page v part = record { tx = a; changes = record { page = page; version = v; part = part } ∷ [] }

-- one changed byte
abbrev pub one_byte : ℕ → ℕ → Part
one_byte place b = Ranges (record { place = place; bytes = b ∷ [] } ∷ [])

-- a disk of one page and one log
abbrev pub one_disk : List ℕ → List ℕ → Disk
one_disk page log = record { pages = page ∷ []; logs = log ∷ [] }

-- three calls: a page, a record and a trimmed log
abbrev pub calls : List DiskCall
calls = WritePage 0 (7 ∷ []) ∷ Force a (8 ∷ 9 ∷ []) ∷ TrimLog 1 ∷ []
