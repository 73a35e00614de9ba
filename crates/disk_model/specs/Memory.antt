-- What a storage in memory holds.
use Rattle.std.specs.Prelude.{◌≡◌, ℕ, ◌+◌, ◌≤◌, List, [], ◌∷◌, length, map, replicate, Option, Some, None, ⊤}
use Rattle.pcl_base.specs.Limits.{Sizes}
use Rattle.pcl_base.specs.declared.trace.Call.TheVariants.{Read, Log, Write, Force, Trim, Cut}
use Rattle.disk_model.specs.declared.stop.Stop.{Stop}
use Rattle.disk_model.specs.declared.counts.FaultCounts.{FaultCounts}
use Rattle.disk_model.specs.Causes.{Counts}
use Rattle.disk_model.specs.Stops.{Fate, Untold, Done, Stopped}

-- a log and its spare room
pub record LogDisk : Type 0 where
  pub bytes : List ℕ
  pub room : ℕ

-- the pages, the logs, each node's stop and failing read, and the counts of faults
pub record Disk : Type 0 where
  pub pages : List (List ℕ)
  pub logs : List LogDisk
  pub stops : List (Option Stop)
  pub failing : List (Option ℕ)
  pub faults : FaultCounts

-- the bytes of each log, and its spare room
abbrev pub bytes_in : List LogDisk → List (List ℕ)
bytes_in logs = map (λ l. l.bytes) logs

abbrev pub rooms_in : List LogDisk → List ℕ
rooms_in logs = map (λ l. l.room) logs

-- an empty log
abbrev pub no_log : LogDisk
no_log = record { bytes = []; room = 0 }

-- the count of each kind
abbrev pub count_of : FaultCounts → Counts
count_of f Read = f.read
count_of f Log = f.log
count_of f Write = f.write
count_of f Force = f.force
count_of f Trim = f.trim
count_of f Cut = f.cut

-- the counts before the first fault
abbrev pub no_faults : FaultCounts
no_faults = record { read = 0; log = 0; write = 0; force = 0; trim = 0; cut = 0 }

-- the bytes that a stopped call keeps, where it is stopped
abbrev pub kept_by : Fate → Option ℕ
kept_by Untold = None
kept_by Done = None
kept_by (Stopped kept) = Some kept

-- a disk as it is opened: pages of zero bytes, empty logs, and nothing that fails
abbrev pub opened : Sizes → Disk
opened c = record {
  pages = replicate c.pages (replicate (c.size + 16) 0);
  logs = replicate c.nodes no_log;
  stops = replicate c.nodes None;
  failing = replicate c.nodes None;
  faults = no_faults;
}

-- the same logs with at least their rooms
abbrev pub AreCopies : List LogDisk → List LogDisk → Type 0
AreCopies [] [] = ⊤
AreCopies [] (m ∷ ms) = ⊥
AreCopies (l ∷ ls) [] = ⊥
AreCopies (l ∷ ls) (m ∷ ms) = (m.bytes ≡ l.bytes) × (l.room ≤ m.room) × AreCopies ls ms

-- a copy of a disk: nothing fails of it
pub record IsCopy (d copy : Disk) : Type 0 where
  pub pages : copy.pages ≡ d.pages
  pub logs : AreCopies d.logs copy.logs
  pub stops : copy.stops ≡ replicate (length d.logs) None
  pub failing : copy.failing ≡ replicate (length d.logs) None
  pub faults : copy.faults ≡ no_faults
