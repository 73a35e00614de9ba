-- The last line of output at a bad line.
use Rattle.std.proofs.Common.{◌≡◌, ℕ, ◌+◌, true, false, Bool, List, length, sym, ap, ◌∙◌, subst, Option, Some, None, Result, Ok, Err}
use Rattle.std.specs.Prelude.{OnOk, IsSome}
use Rattle.text_rules.specs.LineForms.{Piece}
use Rattle.text_rules.specs.ReadLine.{header_of}
use Rattle.text_rules.specs.ReadEvent.{event_of}
use Rattle.text_rules.specs.BadLine.{Byte, Short, Cut, bad_at, bad_text, header_forms, event_forms}
use Rattle.line_laws.proofs.Columns.{cut_good, cut_byte, cut_short}
use Rattle.cluster_rules.specs.Clusters.{Cluster}
use Rattle.schedule_text.specs.LineAnswer.{IsRead, why_of}
use Rattle.schedule_text.specs.declared.fault.LineReason.{LineReason}
use Rattle.schedule_text.specs.declared.fault.LineFault.{LineFault}
use Rattle.schedule_text.specs.declared.fault.LineFault.TheVariants.{BadLine}
use Rattle.replay_rules.specs.Due.{Reading, bad_line, with_header}
use Rattle.replay.specs.ReaderView.{ReaderView}
use Rattle.replay.specs.Told.{line_told}

-- the same text under another name
pub on_ok_more : {X E : Type 0} (r : Result X E) (a b d : List ℕ) → OnOk r (a ≡ b) → b ≡ d → OnOk r (a ≡ d)
on_ok_more (Ok x) a b d h e = h ∙ e
on_ok_more (Err x) a b d h e = h

-- a line of which nothing was read, and where it is bad
abbrev pub IsFound : {X : Type 0} → (List ℕ → Option X) → List (List Piece) → List ℕ → ℕ → LineReason → Type 0
IsFound read forms line column reason = (read line ≡ None) × (bad_at true forms line ≡ Some (column, why_of reason))

pub found_at : {X : Type 0} (read : List ℕ → Option X) (forms : List (List Piece)) (line part : List ℕ) (fault : LineFault) (column : ℕ) (reason : LineReason)
    → IsRead read forms line (Err fault) → fault ≡ BadLine column reason → line ≡ part → IsFound read forms part column reason
found_at read forms line part fault column reason h is same =
    subst (λ l. IsFound read forms l column reason) same (subst (λ f. IsRead read forms line (Err f)) is h)

pub header_text : (t : Bool) (r : Reading) (column : ℕ) (reason : LineReason) → IsFound header_of header_forms r.part column reason
    → bad_text (r.lines + 1) column (why_of reason) ≡ (with_header t r (header_of r.part)).text
header_text t r column reason found = sym (ap (λ o. (with_header t r o).text) found.0 ∙ ap (bad_line r.lines) found.1)

pub event_text : (v : ReaderView) (o : Option Cluster) (column : ℕ) (reason : LineReason) → IsSome o → IsFound event_of event_forms v.reading.part column reason
    → bad_text (v.reading.lines + 1) column (why_of reason) ≡ (line_told v o (event_of v.reading.part)).text
event_text v (Some s) column reason some found =
    sym (ap (λ e. (line_told v (Some s) e).text) found.0 ∙ ap (bad_line v.reading.lines) found.1)
event_text v None column reason some found = let bad : false ≡ true = some in absurd (cc)

-- a line that no newline ends
pub good_text : (forms : List (List Piece)) (lines : ℕ) (line part : List ℕ) → bad_at true forms line ≡ None → line ≡ part
    → bad_text (lines + 1) (length part + 1) Cut ≡ bad_line lines (bad_at false forms part)
good_text forms lines line part none same =
    sym (ap (bad_line lines) (cut_good forms part (subst (λ l. bad_at true forms l ≡ None) same none)))

pub byte_text : (forms : List (List Piece)) (lines column : ℕ) (part : List ℕ) → bad_at true forms part ≡ Some (column, Byte)
    → bad_text (lines + 1) column Byte ≡ bad_line lines (bad_at false forms part)
byte_text forms lines column part found = sym (ap (bad_line lines) (cut_byte forms part column found))

pub short_text : (forms : List (List Piece)) (lines column : ℕ) (part : List ℕ) → bad_at true forms part ≡ Some (column, Short)
    → bad_text (lines + 1) (length part + 1) Cut ≡ bad_line lines (bad_at false forms part)
short_text forms lines column part found = sym (ap (bad_line lines) (cut_short forms part column found))
