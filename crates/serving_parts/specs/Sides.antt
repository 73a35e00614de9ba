-- What serving has at its sides: the input, the output and the storage.
use Rattle.std.specs.Prelude.{◌≡◌, ℕ, List, Option, Some, None, slice_index_or}
use Rattle.run_rules.specs.Disk.{Disk}
use Rattle.disk_model.specs.Causes.{Counts}
use Rattle.disk_model.specs.Disk.{Pages, Logs}
use Rattle.disk_model.specs.declared.stop.Stop.{Stop}
use Rattle.disk_model.specs.Stops.{Stops, Failing}
use Rattle.redo_log.specs.Told.{NoneFails}

-- what a storage tells, with its counts of faults
pub record Store : Type 0 where
  pub pages : Pages
  pub logs : Logs
  pub stops : Stops
  pub failing : Failing
  pub counts : Counts

abbrev pub store_of : Pages → Logs → Stops → Failing → Counts → Store
store_of pages logs stops failing counts =
    record { pages = pages; logs = logs; stops = stops; failing = failing; counts = counts }

-- what a step may change: the output, with its count of faults, and the storage
pub record Outs : Type 0 where
  pub written : Option (List ℕ)
  pub sink : ℕ
  pub store : Store

abbrev pub outs_of : Option (List ℕ) → ℕ → Store → Outs
outs_of written sink store = record { written = written; sink = sink; store = store }

-- and what is left of the input, with its count of faults
pub record Sides : Type 0 where
  pub left : Option (List ℕ)
  pub source : ℕ
  pub outs : Outs

abbrev pub sides_of : Option (List ℕ) → ℕ → Outs → Sides
sides_of left source outs = record { left = left; source = source; outs = outs }

-- a storage tells its pages and its logs
pub record Tells (s : Store) (d : Disk) : Type 0 where
  pub pages : s.pages ≡ Some d.pages
  pub logs : s.logs ≡ Some d.logs

-- a storage tells that none of a node's calls is to fail
pub record NoneIsToFail (me : ℕ) (s : Store) : Type 0 where
  pub stops : List (Option Stop)
  pub told : s.stops ≡ Some stops
  pub unarmed : slice_index_or stops me None ≡ None
  pub reads : List (Option ℕ)
  pub calm : NoneFails s.failing me reads
