-- Lines outside the grammar: the least column at which no line of the grammar goes on, and why.
use Rattle.std.specs.Prelude.{◌≡◌, ℕ, ◌+◌, ◌<◌, ◌≤◌, ◌==◌, ◌&&◌, Bool, true, false, max, nat_lt, List, [], ◌∷◌, ◌++◌, length, take, codes, Option, Some, None}
use Rattle.std.specs.List.{list_any}
use Rattle.pcl_base.specs.declared.event.Header.{Header}
use Rattle.pcl_base.specs.declared.event.Event.{Event}
use Rattle.pcl_base.specs.declared.config.ConfigFault.{ConfigFault}
use Rattle.pcl_base.specs.declared.config.ConfigFault.TheVariants.{BadNodes, BadPages, BadSize, BadFrames}
use Rattle.text_rules.specs.FieldBytes.{pick}
use Rattle.text_rules.specs.ScheduleLine.{line_of, header_line, HasLine, HasHeader, spaced}
use Rattle.text_rules.specs.TraceText.{ended}
use Rattle.text_rules.specs.LineForms.{Piece, Word, Number, Bytes, Flags, Owners, Reach, reach_of}

-- a set of lines
abbrev Lines : Type 1
Lines = List ℕ → Type 0

-- the lines of events, and the first lines
abbrev pub IsEventLine : Lines
IsEventLine line = (e : Event) × HasLine e × (line_of e ≡ line)

abbrev pub IsHeaderLine : Lines
IsHeaderLine line = (h : Header) × HasHeader h × (header_line h ≡ line)

-- bytes that a line of the grammar begins with
abbrev pub IsFront : Lines → Lines
IsFront Line front = (more : List ℕ) × Line (front ++ more)

-- why a line is bad: by a byte, or since it ends too soon, or since no newline ends it
pub data Why : Type 0 where
  Byte : Why
  Short : Why
  Cut : Why

-- the column of a bad byte is the least one, counted from 1, up to which no line of the grammar goes
pub record IsBadByte (Line : Lines) (line : List ℕ) (column : ℕ) : Type 0 where
  pub first : 1 ≤ column
  pub last : column ≤ length line
  pub least : (k : ℕ) → k < column → IsFront Line (take k line)
  pub off : ¬ IsFront Line (take column line)

-- where the whole line is a front, the column is the one behind it
pub record IsBehind (Line : Lines) (line : List ℕ) (column : ℕ) : Type 0 where
  pub front : IsFront Line line
  pub behind : column ≡ length line + 1

-- a line that a newline ends (true) or not is bad at a column
abbrev pub IsBadAt : Lines → Bool → List ℕ → ℕ → Why → Type 0
IsBadAt Line newline line column Byte = IsBadByte Line line column
IsBadAt Line true line column Short = IsBehind Line line column × ¬ Line line
IsBadAt Line false line column Short = ⊥
IsBadAt Line true line column Cut = ⊥
IsBadAt Line false line column Cut = IsBehind Line line column

-- a transaction, and a number behind a space
abbrev pub tx_form : List Piece
tx_form = Number 0 15 ∷ Word (codes ".") ∷ Number 1 4294967295 ∷ Word (codes ".") ∷ Number 1 4294967295 ∷ []

abbrev pub spaced_form : ℕ → ℕ → List Piece
spaced_form low high = Word (codes " ") ∷ Number low high ∷ []

-- the form of first lines
abbrev pub header_forms : List (List Piece)
header_forms =
    (Word (codes "pcl 1") ∷ [] ++ spaced_form 0 65536 ++ spaced_form 0 65536 ++ spaced_form 0 65536 ++ spaced_form 0 65536) ∷ []

-- the forms of events
abbrev pub event_forms : List (List Piece)
event_forms =
    (Word (codes "begin ") ∷ Number 0 15 ∷ [])
    ∷ (Word (codes "read ") ∷ tx_form ++ spaced_form 0 65535)
    ∷ (Word (codes "write ") ∷ tx_form ++ spaced_form 0 65535 ++ spaced_form 0 4095 ++ Word (codes " ") ∷ Bytes ∷ [])
    ∷ (Word (codes "commit ") ∷ tx_form)
    ∷ (Word (codes "abort ") ∷ tx_form)
    ∷ (Word (codes "deliver ") ∷ Number 0 15 ∷ spaced_form 0 15)
    ∷ (Word (codes "evict ") ∷ Number 0 15 ∷ spaced_form 0 65535)
    ∷ (Word (codes "flush ") ∷ Number 0 15 ∷ spaced_form 0 65535)
    ∷ (Word (codes "crash ") ∷ Number 0 15 ∷ [])
    ∷ (Word (codes "view ") ∷ Flags ∷ Word (codes " ") ∷ Owners ∷ [])
    ∷ (Word (codes "install ") ∷ Number 0 15 ∷ [])
    ∷ (Word (codes "reopen") ∷ [])
    ∷ (Word (codes "arm ") ∷ Number 0 15 ∷ spaced_form 1 4294967295 ++ spaced_form 0 4294967295)
    ∷ (Word (codes "cut ") ∷ Number 0 15 ∷ [])
    ∷ []

-- how many bytes from the front are a front of a line of these forms
abbrev pub front_len : List (List Piece) → List ℕ → ℕ
front_len [] line = 0
front_len (form ∷ forms) line = max (reach_of form line).count (front_len forms line)

-- whether the bytes are a line of a form, and whether of one of these
abbrev pub is_all : ℕ → Reach → Bool
is_all n r = (r.count == n) && r.is_whole

abbrev pub is_line : List (List Piece) → List ℕ → Bool
is_line forms line = list_any (λ form. is_all (length line) (reach_of form line)) forms

-- where a line that a newline ends (true) or not is bad, and why
abbrev pub behind_line : Bool → List (List Piece) → List ℕ → Option (ℕ × Why)
behind_line true forms line = pick (is_line forms line) None (Some (length line + 1, Short))
behind_line false forms line = Some (length line + 1, Cut)

abbrev pub bad_at : Bool → List (List Piece) → List ℕ → Option (ℕ × Why)
bad_at newline forms line =
    pick (nat_lt (front_len forms line) (length line)) (Some (front_len forms line + 1, Byte)) (behind_line newline forms line)

-- the words of the reasons
abbrev pub why_text : Why → List ℕ
why_text Byte = codes "byte"
why_text Short = codes "short"
why_text Cut = codes "cut"

-- the last line of output at a bad line
abbrev pub bad_text : ℕ → ℕ → Why → List ℕ
bad_text line column why = ended (codes "bad" ++ spaced line ++ spaced column ++ codes " " ++ why_text why)

-- the words of numbers that aren't a configuration, and the last line of output at such a header
abbrev pub config_fault_text : ConfigFault → List ℕ
config_fault_text BadNodes = codes "BadNodes"
config_fault_text BadPages = codes "BadPages"
config_fault_text BadSize = codes "BadSize"
config_fault_text BadFrames = codes "BadFrames"

abbrev pub bad_header_text : ConfigFault → List ℕ
bad_header_text fault = ended (codes "bad 1 0 " ++ config_fault_text fault)
