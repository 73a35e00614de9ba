-- A line has one reading, and an event one line.
use Rattle.std.specs.Prelude.{◌≡◌, ℕ, is_some, List, Some}
use Rattle.pcl_base.specs.declared.event.Event.{Event}
use Rattle.pcl_base.specs.declared.event.Header.{Header}
use Rattle.text_rules.specs.ScheduleLine.{HasLine, line_of, HasHeader, header_line}
use Rattle.text_rules.specs.ReadLine.{header_of}
use Rattle.text_rules.specs.ReadEvent.{event_of}
use Rattle.text_rules.specs.BadLine.{event_forms, header_forms, is_line}

-- what is read from a line has this line, and what has a line is read from it
pub record LinesGoBothWays : Type 0 where
  pub event_read : (line : List ℕ) (e : Event) → event_of line ≡ Some e → HasLine e × (line_of e ≡ line)
  pub event_printed : (e : Event) → HasLine e → event_of (line_of e) ≡ Some e
  pub header_read : (line : List ℕ) (h : Header) → header_of line ≡ Some h → HasHeader h × (header_line h ≡ line)
  pub header_printed : (h : Header) → HasHeader h → header_of (header_line h) ≡ Some h

-- a line is one of the forms exactly where it is read, and then it is nowhere bad
pub record FormsAreRead : Type 0 where
  pub event_form : (line : List ℕ) → is_line event_forms line ≡ is_some (event_of line)
  pub header_form : (line : List ℕ) → is_line header_forms line ≡ is_some (header_of line)
