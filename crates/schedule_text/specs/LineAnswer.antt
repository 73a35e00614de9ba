-- What the calls on a line answer.
use Rattle.std.specs.Prelude.{◌≡◌, ℕ, ◌+◌, true, nat_lt, codes, List, Option, Some, None, Result, Ok, Err}
use Rattle.pcl_base.specs.declared.event.Event.{Event}
use Rattle.text_rules.specs.FieldBytes.{pick}
use Rattle.text_rules.specs.ReadLine.{after_word, event_after}
use Rattle.text_rules.specs.ReadEvent.{deliver_of, evict_of, flush_of, crash_of, view_of, install_of, reopen_of, arm_of, cut_of}
use Rattle.text_rules.specs.LineForms.{Piece}
use Rattle.text_rules.specs.BadLine.{Why, Byte, Short, bad_at}
use Rattle.schedule_text.specs.declared.fault.LineReason.{LineReason}
use Rattle.schedule_text.specs.declared.fault.LineReason.TheVariants.{Byte as byte_reason, Short as short_reason}
use Rattle.schedule_text.specs.declared.fault.LineFault.{LineFault}
use Rattle.schedule_text.specs.declared.fault.LineFault.TheVariants.{BadLine, NoMemory}

-- the reason in the words of the grammar
abbrev pub why_of : LineReason → Why
why_of byte_reason = Byte
why_of short_reason = Short

-- a fault that names a column: there the line is bad by the grammar of these forms
abbrev pub IsFaultOf : List (List Piece) → List ℕ → LineFault → Type 0
IsFaultOf forms line (BadLine column reason) = bad_at true forms line ≡ Some (column, why_of reason)
IsFaultOf forms line NoMemory = ⊥

-- A line that is read gives what its grammar gives, and is nowhere bad. A bad one gives nothing, and its
-- fault is that of its forms. Want of memory says nothing of the line.
abbrev pub IsRead : {X : Type 0} → (List ℕ → Option X) → List (List Piece) → List ℕ → Result X LineFault → Type 0
IsRead read forms line (Ok x) = (read line ≡ Some x) × (bad_at true forms line ≡ None)
IsRead read forms line (Err (BadLine column reason)) = (read line ≡ None) × (bad_at true forms line ≡ Some (column, why_of reason))
IsRead read forms line (Err NoMemory) = Unit {0}

-- the fault of a line of a length, of which so many bytes from the front are a front of a line of the grammar
abbrev pub fault_at : ℕ → ℕ → LineFault
fault_at len front = pick (nat_lt front len) (BadLine (front + 1) byte_reason) (BadLine (len + 1) short_reason)

-- the event of a line that begins with none of the five words of transactions
abbrev pub later_event_of : List ℕ → Option Event
later_event_of bs =
    event_after (after_word (codes "deliver ") bs) deliver_of
    (event_after (after_word (codes "evict ") bs) evict_of
    (event_after (after_word (codes "flush ") bs) flush_of
    (event_after (after_word (codes "crash ") bs) crash_of
    (event_after (after_word (codes "view ") bs) view_of
    (event_after (after_word (codes "install ") bs) install_of
    (event_after (after_word (codes "reopen") bs) reopen_of
    (event_after (after_word (codes "arm ") bs) arm_of
    (event_after (after_word (codes "cut ") bs) cut_of None))))))))
