-- Inputs whose lines are all of the grammar, and what is due to them.
use Rattle.std.specs.Prelude.{◌≡◌, ℕ, ◌+◌, ◌≤◌, Bool, true, false, List, ◌++◌, length, map, flat_map, Option, Ok}
use Rattle.std.specs.List.{AllByRecursion}
use Rattle.std.specs.Io.KnownBytes.{Appends, Consumes, IsAtEnd}
use Rattle.pcl_base.specs.Limits.{Sizes, config_of}
use Rattle.pcl_base.specs.declared.event.Event.{Event}
use Rattle.pcl_base.specs.declared.event.Header.{Header}
use Rattle.pcl_base.specs.declared.trace.Entry.{Entry}
use Rattle.text_rules.specs.ScheduleLine.{HasHeader, HasLine, header_line, line_of}
use Rattle.text_rules.specs.TraceText.{ended, trace_text}
use Rattle.text_rules.specs.Totals.{totals_of, totals_text}
use Rattle.cluster_rules.specs.Run.{last}
use Rattle.replay_rules.specs.Due.{Told, most_lines}
use Rattle.replay_rules.specs.Due.Place.{Stopped}

-- an input is the lines of a header and of events, and the header's numbers are a configuration
pub record IsSchedule (h : Header) (c : Sizes) (events : List Event) (input : List ℕ) : Type 0 where
  pub is_header : HasHeader h
  pub numbers : config_of h.nodes h.pages h.size h.frames ≡ Ok c
  pub are_events : AllByRecursion HasLine events
  pub few : length events + 1 ≤ most_lines
  pub lines : input ≡ ended (header_line h) ++ flat_map ended (map line_of events)

-- the text of a whole trace, or of its totals
abbrev pub whole_text : Bool → Header → List Entry → List ℕ
whole_text false h trace = trace_text h trace
whole_text true h trace = totals_text (totals_of trace)

-- what is told is the whole run of these events
pub record IsWhole (totals : Bool) (h : Header) (c : Sizes) (es : List Event) (told : Told) : Type 0 where
  pub place : told.place ≡ Stopped 0
  pub events : told.events ≡ es
  pub entries : told.entries ≡ (last c es).trace
  pub text : told.text ≡ whole_text totals h (last c es).trace

-- the input is a schedule, and its whole run is told
pub record IsTold (totals : Bool) (input : List ℕ) (told : Told) : Type 0 where
  pub header : Header
  pub sizes : Sizes
  pub events : List Event
  pub schedule : IsSchedule header sizes events input
  pub whole : IsWhole totals header sizes events told

-- The bytes of a reader and of a writer once a whole run was told: all of the input was read, it is a
-- schedule, and the text of its run is written.
pub record RanWhole (totals : Bool) (left left' written written' : Option (List ℕ)) : Type 0 where
  pub input : List ℕ
  pub header : Header
  pub sizes : Sizes
  pub events : List Event
  pub read : Consumes left left' input
  pub end : IsAtEnd left'
  pub schedule : IsSchedule header sizes events input
  pub text : Appends written written' (whole_text totals header (last sizes events).trace)

-- What `summary` tells is of the trace that `replay` writes: at status 0 its totals, and at another status
-- its last line alone.
pub record IsSummed (summed replayed : Told) : Type 0 where
  pub events : summed.events ≡ replayed.events
  pub entries : summed.entries ≡ replayed.entries
  pub place : summed.place ≡ replayed.place
  pub totals : replayed.place ≡ Stopped 0 → summed.text ≡ totals_text (totals_of replayed.entries)
  pub last_line : ¬ (replayed.place ≡ Stopped 0) → (before : List ℕ) × (replayed.text ≡ before ++ summed.text)
