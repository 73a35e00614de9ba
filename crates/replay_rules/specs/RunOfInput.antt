-- What is due to an input is the run of the events that its lines name, and how the input ends.
use Rattle.std.specs.Prelude.{◌≡◌, ℕ, ◌+◌, ◌==◌, ◌<◌, ◌≤◌, ◌⊎◌, Bool, true, false, List, [], ◌∷◌, ◌++◌, length, map, flat_map, Some, Ok, Err}
use Rattle.std.specs.List.{AllByRecursion}
use Rattle.pcl_base.specs.Limits.{Sizes, config_of}
use Rattle.pcl_base.specs.declared.config.ConfigFault.{ConfigFault}
use Rattle.pcl_base.specs.declared.event.Event.{Event}
use Rattle.pcl_base.specs.declared.event.Header.{Header}
use Rattle.pcl_base.specs.declared.trace.Entry.{Entry}
use Rattle.text_rules.specs.LineForms.{Piece}
use Rattle.text_rules.specs.ScheduleLine.{HasHeader, HasLine, header_line, line_of}
use Rattle.text_rules.specs.BadLine.{Why, bad_at, bad_text, bad_header_text, header_forms, event_forms}
use Rattle.text_rules.specs.TraceText.{ended, echo_text, entry_text}
use Rattle.cluster_rules.specs.Run.{last}
use Rattle.replay_rules.specs.Due.{Told, only_text, most_lines, most_bytes, in_trace, long_text, closing}
use Rattle.replay_rules.specs.Due.Place.{Stopped}

-- no byte of a line ends it
abbrev pub HasNoNewline : List ℕ → Type 0
HasNoNewline line = AllByRecursion (λ b. (b == 10) ≡ false) line

-- the next line of some bytes. True: it ends before a newline, or it is as long as a line may be to be
-- judged; false: the input ends within it
abbrev pub IsNext : Bool → List ℕ → List ℕ → Type 0
IsNext true line bytes =
    (more : List ℕ)
    × (((bytes ≡ line ++ 10 ∷ more) × (length line < most_bytes)) ⊎ ((bytes ≡ line ++ more) × (length line ≡ most_bytes)))
IsNext false line bytes = (bytes ≡ line) × (length line < most_bytes)

-- the next line is none of these forms
pub record IsBadNext (forms : List (List Piece)) (bytes : List ℕ) (column : ℕ) (why : Why) : Type 0 where
  pub line : List ℕ
  pub newline : Bool
  pub next : IsNext newline line bytes
  pub one : HasNoNewline line
  pub bad : bad_at newline forms line ≡ Some (column, why)

-- behind the good lines comes nothing more, or a bad line, or a line too many
pub data Ending : Type 0 where
  Whole : Ending
  BadAt : ℕ → Why → Ending
  TooMany : Ending

-- n good lines, the bytes behind them, and how they end the run
abbrev pub EndsAs : ℕ → List ℕ → Ending → Type 0
EndsAs n rest Whole = rest ≡ []
EndsAs n rest (BadAt column why) = (n < most_lines) × (¬ (rest ≡ [])) × IsBadNext event_forms rest column why
EndsAs n rest TooMany = (n ≡ most_lines) × (¬ (rest ≡ []))

-- the status
abbrev pub status_of : Ending → ℕ
status_of Whole = 0
status_of (BadAt column why) = 3
status_of TooMany = 7

-- the last lines, behind n good lines that gave a trace
abbrev pub closes : Bool → List Entry → ℕ → Ending → List ℕ
closes totals trace n Whole = closing totals trace
closes totals trace n (BadAt column why) = bad_text (n + 1) column why
closes totals trace n TooMany = long_text n

-- what is due to a header, to events and to how they end
abbrev pub told_of : Bool → Header → List Event → List Entry → Ending → Told
told_of totals h events trace ending =
    record {
      events = events;
      entries = trace;
      text =
          in_trace totals (echo_text (header_line h) ++ flat_map entry_text trace)
          ++ closes totals trace (length events + 1) ending;
      place = Stopped (status_of ending);
    }

-- An input and what is due to it, of `replay` and of `summary`: good lines, the first of which makes a
-- configuration, and the rest; the entries are those of the run of the rules.
pub record IsRun (input : List ℕ) (told : Bool → Told) : Type 0 where
  pub header : Header
  pub sizes : Sizes
  pub events : List Event
  pub rest : List ℕ
  pub ending : Ending
  pub lines : input ≡ ended (header_line header) ++ (flat_map ended (map line_of events) ++ rest)
  pub is_header : HasHeader header
  pub are_events : AllByRecursion HasLine events
  pub few : length events + 1 ≤ most_lines
  pub numbers : config_of header.nodes header.pages header.size header.frames ≡ Ok sizes
  pub ends : EndsAs (length events + 1) rest ending
  pub due : (totals : Bool) → told totals ≡ told_of totals header events (last sizes events).trace ending

-- the first line is no header
pub record IsHeadless (input : List ℕ) (told : Bool → Told) : Type 0 where
  pub column : ℕ
  pub why : Why
  pub bad : IsBadNext header_forms input column why
  pub due : (totals : Bool) → told totals ≡ only_text (bad_text 1 column why) (Stopped 3)

-- the numbers of the header are no configuration
pub record IsOutside (input : List ℕ) (told : Bool → Told) : Type 0 where
  pub header : Header
  pub fault : ConfigFault
  pub more : List ℕ
  pub lines : input ≡ ended (header_line header) ++ more
  pub is_header : HasHeader header
  pub numbers : config_of header.nodes header.pages header.size header.frames ≡ Err fault
  pub due : (totals : Bool) → told totals ≡ only_text (bad_header_text fault) (Stopped 3)

abbrev pub IsDueTo : List ℕ → (Bool → Told) → Type 0
IsDueTo input told = IsRun input told ⊎ (IsHeadless input told ⊎ IsOutside input told)
