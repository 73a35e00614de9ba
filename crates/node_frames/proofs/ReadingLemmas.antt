-- Where bad lines and bad fields stand, and what is carried over an answer.
use Rattle.std.proofs.Common.{◌≡◌, ℕ, ◌+◌, ◌-◌, ◌<◌, ◌≤◌, Bool, true, false, nat_lt, List, length, Option, Some, None, Result, Ok, Err, ap, subst, refl, arith}
use Rattle.std.specs.Result.{IfOk}
use Rattle.std.specs.Prelude.{IfSome}
use Rattle.std.proofs.lemmas.Bool.{ltb-true}
use Rattle.pcl_base.specs.Limits.{Sizes}
use Rattle.frame_rules.specs.Frames.{IsFrame}
use Rattle.node_frames.specs.declared.frame.Frame.{Frame}
use Rattle.node_frames.specs.declared.fault.FrameFault.{FrameFault}
use Rattle.node_frames.specs.Seen.{frame_in}
use Rattle.schedule_text.specs.LineAnswer.{IsRead, why_of}
use Rattle.schedule_text.specs.declared.fault.LineReason.{LineReason}
use Rattle.schedule_text.specs.declared.fault.LineFault.{LineFault}
use Rattle.schedule_text.specs.declared.fault.LineFault.TheVariants.{BadLine, NoMemory}
use Rattle.text_rules.specs.ReadEvent.{event_of}
use Rattle.text_rules.specs.FieldBytes.{Stop, pick, whole}
use Rattle.text_rules.specs.ReadMessage.{Refusal, placed, decoded, message_field}
use Rattle.text_rules.specs.BadLine.{Why, Byte, Short, bad_at, event_forms, front_len, is_line}

-- a frame to a node is one to this node
pub line_frame_of : (r : Result Frame FrameFault) (c : Sizes) (me : ℕ) → IfOk r (λ f. (c : Sizes) (me : ℕ) → IsFrame c me (frame_in f)) → IfOk r (λ f. IsFrame c me (frame_in f))
line_frame_of (Ok f) c me is = is c me
line_frame_of (Err e) c me is = is

-- the same of a message from another node
pub message_frame_of : (r : Result Frame FrameFault) (c : Sizes) (from me : ℕ) → IfOk r (λ f. (me : ℕ) → from < c.nodes → ¬ (from ≡ me) → IsFrame c me (frame_in f)) → from < c.nodes → ¬ (from ≡ me) → IfOk r (λ f. IsFrame c me (frame_in f))
message_frame_of (Ok f) c from me is node other = is me node other
message_frame_of (Err e) c from me is node other = is

-- a refusal is at a place among the bytes
abbrev pub place_in : {X : Type 0} → Result X Refusal → ℕ
place_in (Ok x) = 0
place_in (Err r) = r.place

pub placed_within : {X : Type 0} (count : ℕ) (x : Result X Stop) (r : Refusal) → placed count x ≡ Err r → r.place ≤ count
placed_within count (Ok x) r is = let place : 0 ≡ r.place = ap place_in is in omega (arith, place)
placed_within count (Err s) r is = let place : count - s.left ≡ r.place = ap place_in is in omega (arith, place)

-- the same of a refusal that may be want of memory
pub decoded_within : (o : Option Refusal) (c : Sizes) (bytes : List ℕ) → length bytes < 134217728 → IfSome o (λ r. decoded c bytes ≡ Err r) → IfSome o (λ r. r.place ≤ 134217728)
decoded_within None c bytes small is = is
decoded_within (Some r) c bytes small is =
    let within = placed_within (length bytes) (whole (message_field c bytes)) r is in omega (arith, within, small)

-- a bad line is bad at one of its bytes or behind it
abbrev pub column_in : Option (ℕ × Why) → ℕ
column_in None = 0
column_in (Some at) = at.0

pub column_of : (front len : ℕ) (off ended : Bool) → nat_lt front len ≡ off → column_in (pick off (Some (front + 1, Byte)) (pick ended None (Some (len + 1, Short)))) ≤ len + 1
column_of front len true ended is = let less = ltb-true front len is in omega (arith, less)
column_of front len false true is = omega arith
column_of front len false false is = omega arith

pub column_within : (line : List ℕ) (column : ℕ) (why : Why) → bad_at true event_forms line ≡ Some (column, why) → column ≤ length line + 1
column_within line column why is =
    let same : column_in (bad_at true event_forms line) ≡ column = ap column_in is in
    subst (λ k. k ≤ length line + 1) same (column_of (front_len event_forms line) (length line) (nat_lt (front_len event_forms line) (length line)) (is_line event_forms line) refl)

-- the column of a line's fault
abbrev pub fault_column : LineFault → ℕ
fault_column (BadLine column reason) = column
fault_column NoMemory = 0

pub column_read : (line : List ℕ) (fault : LineFault) (column : ℕ) (reason : LineReason) → IsRead event_of event_forms line (Err fault) → fault ≡ BadLine column reason → column ≤ length line + 1
column_read line (BadLine k r) column reason is same =
    let at : k ≡ column = ap fault_column same in subst (λ n. n ≤ length line + 1) at (column_within line k (why_of r) is.1)
column_read line NoMemory column reason is same = let at : 0 ≡ column = ap fault_column same in omega (arith, at)
