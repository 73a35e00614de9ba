-- Worked schedules: their lines, their events, and the lines of their runs.
use Rattle.std.specs.Prelude.{◌≡◌, ℕ, List, [], ◌∷◌, ◌++◌, map, None, Some}
use Rattle.pcl_base.specs.Limits.{Sizes}
use Rattle.pcl_base.specs.declared.tx.TxId.{TxId}
use Rattle.pcl_base.specs.declared.event.Event.{Event}
use Rattle.pcl_base.specs.declared.event.Header.{Header}
use Rattle.text_rules.specs.ScheduleLine.{header_line, line_of}
use Rattle.text_rules.specs.ReadEvent.{schedule_of}
use Rattle.text_rules.specs.TraceText.{trace_text}
use Rattle.cluster_rules.specs.Run.{last, run}
use Rattle.cluster_rules.specs.Safe.{first_unsafe}

-- a schedule by its lines, the numbers of its first line and the events of the others, and the lines
-- of its run
pub record Row : Type 0 where
  pub sizes : Sizes
  pub input : List (List ℕ)
  pub events : List Event
  pub output : List (List ℕ)

-- a transaction by its three numbers
abbrev pub tx : ℕ → ℕ → ℕ → TxId
tx node born serial = record { node = node; born = born; serial = serial }

-- lines as bytes, each with its newline
abbrev pub text : List (List ℕ) → List ℕ
text [] = []
text (l ∷ ls) = l ++ 10 ∷ text ls

-- the first line of a schedule
abbrev pub header_of_sizes : Sizes → Header
header_of_sizes c = record { nodes = c.nodes; pages = c.pages; size = c.size; frames = c.frames }

-- the lines of a schedule: the first one, and one for each event
abbrev pub lines_of : Sizes → List Event → List (List ℕ)
lines_of c es = header_line (header_of_sizes c) ∷ map line_of es

-- the input is read as these events, and is their lines
pub record ReadsAs (r : Row) : Type 0 where
  pub read : schedule_of r.input ≡ Some (header_of_sizes r.sizes, r.events)
  pub lines : lines_of r.sizes r.events ≡ r.input

-- the text of the run is the output
abbrev pub Prints : Row → Type 0
Prints r = trace_text (header_of_sizes r.sizes) (last r.sizes r.events).trace ≡ text r.output

-- each cluster of the run is safe
abbrev pub StaysSafe : Row → Type 0
StaysSafe r = first_unsafe 0 (run r.sizes r.events) ≡ None
