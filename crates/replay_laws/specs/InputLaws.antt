-- What holds of every input, whatever its bytes.
use Rattle.std.specs.Prelude.{◌≡◌, ℕ, ◌+◌, ◌≤◌, Bool, List, ◌++◌, length, map, flat_map, Ok, Err}
use Rattle.std.specs.List.{AllByRecursion}
use Rattle.pcl_base.specs.Limits.{Sizes, config_of}
use Rattle.pcl_base.specs.declared.config.ConfigFault.{ConfigFault}
use Rattle.pcl_base.specs.declared.event.Event.{Event}
use Rattle.pcl_base.specs.declared.event.Header.{Header}
use Rattle.text_rules.specs.ScheduleLine.{HasHeader, HasLine, header_line, line_of}
use Rattle.text_rules.specs.BadLine.{Why, bad_text, bad_header_text, header_forms}
use Rattle.text_rules.specs.TraceText.{ended}
use Rattle.cluster_rules.specs.Run.{last}
use Rattle.replay_rules.specs.Due.{only_text, first_place, read_from, and_then, due, most_lines}
use Rattle.replay_rules.specs.Due.Place.{Stopped}
use Rattle.replay_rules.specs.RunOfInput.{HasNoNewline, Ending, EndsAs, IsBadNext, told_of}
use Rattle.replay_rules.specs.Schedule.{IsSchedule, IsWhole, IsTold}

-- no line of the grammar has a newline within it, and none is longer than 8,234 bytes
pub record LinesAreShort : Type 0 where
  pub event_length : (e : Event) → HasLine e → length (line_of e) ≤ 8234
  pub event_newline : (e : Event) → HasLine e → HasNoNewline (line_of e)
  pub header_length : (h : Header) → HasHeader h → length (header_line h) ≤ 8234
  pub header_newline : (h : Header) → HasHeader h → HasNoNewline (header_line h)

-- The text and the status are those of the good lines and of how the input ends behind them, wherever it
-- ends so; or those of a first line that is no header, or of a header outside the limits.
pub record EndingsAreTold : Type 0 where
  pub run : (totals : Bool) (h : Header) (c : Sizes) (events : List Event) (rest : List ℕ) (ending : Ending) → HasHeader h
      → config_of h.nodes h.pages h.size h.frames ≡ Ok c → AllByRecursion HasLine events → length events + 1 ≤ most_lines
      → EndsAs (length events + 1) rest ending
      → due totals (ended (header_line h) ++ (flat_map ended (map line_of events) ++ rest)) ≡ told_of totals h events (last c events).trace ending
  pub headless : (totals : Bool) (input : List ℕ) (column : ℕ) (why : Why) → IsBadNext header_forms input column why
      → due totals input ≡ only_text (bad_text 1 column why) (Stopped 3)
  pub outside : (totals : Bool) (h : Header) (fault : ConfigFault) (more : List ℕ) → HasHeader h
      → config_of h.nodes h.pages h.size h.frames ≡ Err fault
      → due totals (ended (header_line h) ++ more) ≡ only_text (bad_header_text fault) (Stopped 3)

-- what is due to a schedule is its whole run, and nothing else ends at status 0
pub record SchedulesAreToldWhole : Type 0 where
  pub told : (totals : Bool) (h : Header) (c : Sizes) (events : List Event) (input : List ℕ) → IsSchedule h c events input
      → IsWhole totals h c events (due totals input)
  pub only : (totals : Bool) (input : List ℕ) → (due totals input).place ≡ Stopped 0 → IsTold totals input (due totals input)

-- a part of an input is read as it is where more follows, and its text is a beginning of the whole text
pub record BeginningsAreKept : Type 0 where
  pub read : (totals : Bool) (a b : List ℕ)
      → read_from totals first_place (a ++ b) ≡ and_then (read_from totals first_place a) (λ place. read_from totals place b)
  pub text : (totals : Bool) (a b : List ℕ) → (rest : List ℕ) × ((due totals (a ++ b)).text ≡ (read_from totals first_place a).text ++ rest)
