-- Reading frames from bytes, and each bad frame with its place and reason.
use Rattle.std.specs.Prelude.{ℕ, zero, suc, ◌+◌, ◌==◌, ◌&&◌, not, nat_lt, nat_le, Bool, true, List, [], ◌∷◌, length, take, drop, Option, Some, None, is_some, Result, Ok, Err}
use Rattle.std.specs.Int.{w8, w32, from_be_bytes}
use Rattle.pcl_base.specs.Limits.{Sizes, is_between}
use Rattle.pcl_base.specs.declared.event.Event.{Event}
use Rattle.run_rules.specs.Views.{View}
use Rattle.text_rules.specs.FieldBytes.{Fault, BadField, Stop, Reader, pick, give, ◌>>=◌, allowed, number, number_from, at_least, items, whole}
use Rattle.text_rules.specs.ReadMessage.{Refusal, placed, decoded}
use Rattle.text_rules.specs.ReadEvent.{event_of}
use Rattle.text_rules.specs.BadLine.{Why, Byte, bad_at, event_forms}
use Rattle.frame_rules.specs.Frames.{Frame, LineFrame, MessageFrame, ViewFrame, line_kind, message_kind, view_kind, most_length, asked_by, is_live_node}

-- why a frame is bad: its length isn't allowed, the input ends within it, its kind is none, or its
-- line or one of its fields is bad
pub data Reason : Type 0 where
  BadLength : Reason
  CutOff : Reason
  NoKind : Reason
  InLine : Why → Reason
  InField : Fault → Reason

-- a bad frame: the place of what is at fault, counted from 1 at the frame's first byte, and why
pub record BadFrame : Type 0 where
  pub place : ℕ
  pub reason : Reason

abbrev pub bad_frame : ℕ → Reason → BadFrame
bad_frame place reason = record { place = place; reason = reason }

-- the front of the bytes that are left: they are at their end, or begin with a bad frame, or with
-- the body of a whole one, its kind and payload, and what is left behind it
pub data Front : Type 0 where
  AtEnd : Front
  Bad : BadFrame → Front
  Whole : List ℕ → List ℕ → Front

-- n bytes of a frame behind its length
abbrev pub body_front : ℕ → List ℕ → Front
body_front n bytes =
    pick (nat_le n (length bytes)) (Whole (take n bytes) (drop n bytes)) (Bad (bad_frame (5 + length bytes) CutOff))

-- the length is judged before what follows it
abbrev pub length_front : ℕ → List ℕ → Front
length_front n bytes = pick (is_between 1 most_length n) (body_front n bytes) (Bad (bad_frame 1 BadLength))

-- the front of bytes that aren't at their end
abbrev pub frame_front : List ℕ → Front
frame_front bytes =
    pick (nat_le 4 (length bytes))
    (length_front (from_be_bytes w32 (take 4 bytes)) (drop 4 bytes))
    (Bad (bad_frame (1 + length bytes) CutOff))

-- what the bytes that are left begin with
abbrev pub front_of : List ℕ → Front
front_of [] = AtEnd
front_of (b ∷ bytes) = frame_front (b ∷ bytes)

-- the event of a line, where it is a step of a node
abbrev pub if_asks : Bool → Event → Option Event
if_asks asks e = pick asks (Some e) None

abbrev pub step_line : Option Event → Option Event
step_line None = None
step_line (Some e) = if_asks (is_some (asked_by e)) e

-- a line is judged over all lines of events; that of another event is bad at its first byte
abbrev pub line_frame : Option (ℕ × Why) → Option Event → Result Frame BadFrame
line_frame (Some at) event = Err (bad_frame (5 + at.0) (InLine at.1))
line_frame None (Some e) = Ok (LineFrame e)
line_frame None None = Err (bad_frame 6 (InLine Byte))

-- what was read of fields, the first of which begins at a place
abbrev pub fields_frame : {X : Type 0} → ℕ → (X → Frame) → Result X Refusal → Result Frame BadFrame
fields_frame first make (Ok x) = Ok (make x)
fields_frame first make (Err r) = Err (bad_frame (first + r.place) (InField r.fault))

-- the sender of a message: another node
abbrev pub sender_field : Sizes → ℕ → Reader ℕ
sender_field c me = allowed BadField (λ n. nat_lt n c.nodes && not (n == me)) (number w8)

-- a message behind its sender, which stands at place 6
abbrev pub message_frame : Sizes → Result (ℕ × List ℕ) Stop → Result Frame BadFrame
message_frame c (Ok p) = fields_frame 7 (MessageFrame p.0) (decoded c p.1)
message_frame c (Err s) = Err (bad_frame 6 (InField s.fault))

-- the live flag of a node, which is set where it is that of the reader
abbrev pub live_field : ℕ → ℕ → Reader Bool
live_field me n = do
  code ← number_from (pick (n == me) 1 0) 1 w8
  give (code == 1)

-- the flags of so many nodes, from node n on
abbrev pub live_fields : ℕ → ℕ → ℕ → Reader (List Bool)
live_fields me n zero = give []
live_fields me n (suc count) = do
  live ← live_field me n
  others ← live_fields me (n + 1) count
  give (live ∷ others)

-- an owner, which is live
abbrev pub owner_field : List Bool → Reader ℕ
owner_field live = allowed BadField (is_live_node live) (number w8)

-- an epoch up to that of the view
abbrev pub epoch_field : ℕ → Reader ℕ
epoch_field epoch = number_from 1 epoch w32

-- a view
abbrev pub view_field : Sizes → ℕ → Reader View
view_field c me = do
  epoch ← at_least 1 w32
  live ← live_fields me 0 c.nodes
  owners ← items c.nodes (owner_field live)
  since ← items c.nodes (epoch_field epoch)
  born ← items c.nodes (epoch_field epoch)
  give (record { epoch = epoch; live = live; owners = owners; since = since; born = born })

-- the frame of a kind and a payload
abbrev pub payload_frame : Sizes → ℕ → ℕ → List ℕ → Result Frame BadFrame
payload_frame c me kind payload =
    pick (kind == line_kind) (line_frame (bad_at true event_forms payload) (step_line (event_of payload)))
    (pick (kind == message_kind) (message_frame c (sender_field c me payload))
    (pick (kind == view_kind)
    (fields_frame 6 ViewFrame (placed (length payload) (whole (view_field c me payload))))
    (Err (bad_frame 5 NoKind))))

-- the frame of a body to a node of a cluster; a body without a kind is none
abbrev pub frame_of : Sizes → ℕ → List ℕ → Result Frame BadFrame
frame_of c me [] = Err (bad_frame 5 NoKind)
frame_of c me (kind ∷ payload) = payload_frame c me kind payload
