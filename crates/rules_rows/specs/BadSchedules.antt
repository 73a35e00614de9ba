-- Schedules with a bad line: the text of the lines before it, and the line that tells of it.
use Rattle.std.specs.Prelude.{◌≡◌, ℕ, ◌+◌, Bool, true, false, List, [], ◌∷◌, ◌++◌, length, codes, Some, None}
use Rattle.std.specs.List.{flat_map}
use Rattle.pcl_base.specs.Limits.{Sizes}
use Rattle.pcl_base.specs.declared.event.Event.{Event}
use Rattle.pcl_base.specs.declared.event.Event.TheVariants.{Begin}
use Rattle.text_rules.specs.BadLine.{Why, Byte, Short, Cut, bad_at, bad_text, event_forms}
use Rattle.text_rules.specs.ScheduleLine.{header_line}
use Rattle.text_rules.specs.TraceText.{ended, echo_text, entry_text}
use Rattle.cluster_rules.specs.Run.{last}
use Rattle.rules_rows.specs.Schedules.{text, header_of_sizes, lines_of}

-- the numbers of the first line, the events of the good lines, the bad line, whether a newline ends
-- it, and the lines of output
pub record BadRow : Type 0 where
  pub sizes : Sizes
  pub events : List Event
  pub line : List ℕ
  pub newline : Bool
  pub column : ℕ
  pub why : Why
  pub output : List (List ℕ)

-- the text of a run up to its last event
abbrev pub text_before : Sizes → List Event → List ℕ
text_before c es = echo_text (header_line (header_of_sizes c)) ++ flat_map entry_text (last c es).trace

-- the line is bad there, and the output tells the run before it and then the column and the reason
pub record IsRefused (r : BadRow) : Type 0 where
  pub bad : bad_at r.newline event_forms r.line ≡ Some (r.column, r.why)
  pub printed : text_before r.sizes r.events ++ bad_text (length (lines_of r.sizes r.events) + 1) r.column r.why ≡ text r.output

-- one node of one page with two frames, where one transaction is open
abbrev pub after_begin : List ℕ → Bool → ℕ → Why → List ℕ → BadRow
after_begin line newline column why told =
    record {
      sizes = record { nodes = 1; pages = 1; size = 8; frames = 2 };
      events = Begin 0 ∷ [];
      line = line;
      newline = newline;
      column = column;
      why = why;
      output = codes "> pcl 1 1 1 8 2" ∷ codes "> begin 0" ∷ codes "begun 0.1.1" ∷ told ∷ [];
    }

-- bad line byte
abbrev pub bad_line_byte : BadRow
bad_line_byte = after_begin (codes "read 0.1.1 65536") true 16 Byte (codes "bad 3 16 byte")

-- bad line short
abbrev pub bad_line_short : BadRow
bad_line_short = after_begin (codes "write 0.1.1 0 0 abc") true 20 Short (codes "bad 3 20 short")

-- bad line cut
abbrev pub bad_line_cut : BadRow
bad_line_cut = after_begin (codes "read 0.1.1") false 11 Cut (codes "bad 3 11 cut")
