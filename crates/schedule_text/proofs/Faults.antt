-- The fault of a line that is none.
use Rattle.std.proofs.Common.{◌≡◌, ℕ, ◌+◌, nat_lt, Bool, true, false, List, length, sym, ap, ◌∙◌, subst, Option, Some, None, Err}
use Rattle.text_rules.specs.FieldBytes.{pick}
use Rattle.text_rules.specs.LineForms.{Piece}
use Rattle.text_rules.specs.BadLine.{Byte, Short, bad_at, front_len, is_line}
use Rattle.line_laws.proofs.Columns.{bad_line}
use Rattle.schedule_text.specs.LineAnswer.{IsRead, IsFaultOf, fault_at}
use Rattle.schedule_text.specs.declared.fault.LineReason.TheVariants.{Byte as byte_reason, Short as short_reason}
use Rattle.schedule_text.specs.declared.fault.LineFault.{LineFault}
use Rattle.schedule_text.specs.declared.fault.LineFault.TheVariants.{BadLine}

fault_by : (forms : List (List Piece)) (line : List ℕ) (t : Bool)
    → bad_at true forms line ≡ pick t (Some (front_len forms line + 1, Byte)) (Some (length line + 1, Short))
    → IsFaultOf forms line (pick t (BadLine (front_len forms line + 1) byte_reason) (BadLine (length line + 1) short_reason))
fault_by forms line true e = e
fault_by forms line false e = e

pub fault_is : (forms : List (List Piece)) (line : List ℕ) (front : ℕ) (fault : LineFault) → is_line forms line ≡ false → front ≡ front_len forms line
    → fault ≡ fault_at (length line) front → IsFaultOf forms line fault
fault_is forms line front fault none same e =
    subst (IsFaultOf forms line) (sym (e ∙ ap (fault_at (length line)) same))
    (fault_by forms line (nat_lt (front_len forms line) (length line)) (bad_line forms line none))

read_by : {X : Type 0} (read : List ℕ → Option X) (forms : List (List Piece)) (line : List ℕ) (t : Bool) → read line ≡ None
    → bad_at true forms line ≡ pick t (Some (front_len forms line + 1, Byte)) (Some (length line + 1, Short))
    → IsRead read forms line (Err (pick t (BadLine (front_len forms line + 1) byte_reason) (BadLine (length line + 1) short_reason)))
read_by read forms line true n e = (n, e)
read_by read forms line false n e = (n, e)

pub fault_read : {X : Type 0} (read : List ℕ → Option X) (forms : List (List Piece)) (line : List ℕ) (front : ℕ) (fault : LineFault) → read line ≡ None
    → is_line forms line ≡ false → front ≡ front_len forms line → fault ≡ fault_at (length line) front → IsRead read forms line (Err fault)
fault_read read forms line front fault n none same e =
    subst (λ f. IsRead read forms line (Err f)) (sym (e ∙ ap (fault_at (length line)) same))
    (read_by read forms line (nat_lt (front_len forms line) (length line)) n (bad_line forms line none))
