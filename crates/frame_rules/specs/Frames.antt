-- The frames that a node reads: lines, messages and views, and their bytes.
use Rattle.std.specs.Prelude.{◌≡◌, ℕ, ◌+◌, ◌<◌, ◌≤◌, ◌^◌, ◌==◌, ◌&&◌, nat_lt, Bool, true, List, ◌∷◌, ◌++◌, length, map, flat_map, Option, Some, None, IsSome}
use Rattle.std.specs.Int.{w32, to_be_bytes}
use Rattle.std.specs.List.{list_all}
use Rattle.pcl_base.specs.Limits.{Sizes, is_between}
use Rattle.pcl_base.specs.declared.event.Event.{Event}
use Rattle.pcl_base.specs.declared.event.Event.TheVariants as line
use Rattle.pcl_base.specs.declared.message.Message.{Message}
use Rattle.run_rules.specs.Views.{View, is_live}
use Rattle.text_rules.specs.FieldBytes.{pick}
use Rattle.text_rules.specs.ScheduleLine.{line_of, HasLine}
use Rattle.text_rules.specs.MessageBytes.{message_bytes, flag_byte, IsMessage}
use Rattle.node_rules.specs.NodeState.{NodeEvent, Begin, Read, Write, Commit, Abort, Deliver, Evict, Flush, Install, Cut}

-- what a frame brings: an event by its line, a message with its sender, or a view
pub data Frame : Type 0 where
  LineFrame : Event → Frame
  MessageFrame : ℕ → Message → Frame
  ViewFrame : View → Frame

-- the kinds of frames, each the code of a letter: L, M, V, R and E
abbrev pub line_kind : ℕ
line_kind = 76

abbrev pub message_kind : ℕ
message_kind = 77

abbrev pub view_kind : ℕ
view_kind = 86

abbrev pub replies_kind : ℕ
replies_kind = 82

abbrev pub end_kind : ℕ
end_kind = 69

-- the greatest length of a frame that is read
abbrev pub most_length : ℕ
most_length = 134217728

-- a frame: the length of what follows, its kind and its payload
abbrev pub framed : ℕ → List ℕ → List ℕ
framed kind payload = to_be_bytes w32 (length payload + 1) ++ kind ∷ payload

-- numbers of four bytes each
abbrev pub epochs_bytes : List ℕ → List ℕ
epochs_bytes epochs = flat_map (to_be_bytes w32) epochs

-- a view: its epoch, the live flags, the owners, `since` and `born`
abbrev pub view_bytes : View → List ℕ
view_bytes v =
    to_be_bytes w32 v.epoch ++ map flag_byte v.live ++ v.owners ++ epochs_bytes v.since ++ epochs_bytes v.born

-- the kind of a frame and its payload
abbrev pub body_bytes : Frame → List ℕ
body_bytes (LineFrame e) = line_kind ∷ line_of e
body_bytes (MessageFrame from m) = message_kind ∷ from ∷ message_bytes m
body_bytes (ViewFrame v) = view_kind ∷ view_bytes v

-- the bytes of a frame
abbrev pub frame_bytes : Frame → List ℕ
frame_bytes f = to_be_bytes w32 (length (body_bytes f)) ++ body_bytes f

-- the node that a line names and what it asks of it; no other line is a step of a node
abbrev pub asked_by : Event → Option (ℕ × NodeEvent)
asked_by (line.Begin n) = Some (n, Begin)
asked_by (line.Read t p) = Some (t.node, Read t p)
asked_by (line.Write t p place bytes) = Some (t.node, Write t p place bytes)
asked_by (line.Commit t) = Some (t.node, Commit t)
asked_by (line.Abort t) = Some (t.node, Abort t)
asked_by (line.Evict n p) = Some (n, Evict p)
asked_by (line.Flush n p) = Some (n, Flush p)
asked_by (line.Cut n) = Some (n, Cut)
asked_by _ = None

-- whether a node is live, by the flags of all nodes
abbrev pub is_live_node : List Bool → ℕ → Bool
is_live_node live n = nat_lt n (length live) && is_live live n

-- the views that may stand in a frame to a node: the epoch is of four bytes, the node is live, owners
-- are live, and each `since` and `born` is from 1 to the epoch
pub record IsView (c : Sizes) (me : ℕ) (v : View) : Type 0 where
  pub epoch : 1 ≤ v.epoch
  pub four_bytes : v.epoch < 2 ^ 32
  pub each_live : length v.live ≡ c.nodes
  pub each_owner : length v.owners ≡ c.nodes
  pub each_since : length v.since ≡ c.nodes
  pub each_born : length v.born ≡ c.nodes
  pub me_live : is_live_node v.live me ≡ true
  pub live_owners : list_all (is_live_node v.live) v.owners ≡ true
  pub since_within : list_all (is_between 1 v.epoch) v.since ≡ true
  pub born_within : list_all (is_between 1 v.epoch) v.born ≡ true

-- the frames that a node reads
abbrev pub IsFrame : Sizes → ℕ → Frame → Type 0
IsFrame c me (LineFrame e) = HasLine e × IsSome (asked_by e)
IsFrame c me (MessageFrame from m) = (from < c.nodes) × ¬ (from ≡ me) × IsMessage c m
IsFrame c me (ViewFrame v) = IsView c me v

-- the step of this node that a line asks for, where it names this node
abbrev pub own_step : ℕ → Option (ℕ × NodeEvent) → Option NodeEvent
own_step me None = None
own_step me (Some asked) = pick (asked.0 == me) (Some asked.1) None

-- the step that a frame asks of a node; none where its line names another node
abbrev pub step_of : ℕ → Frame → Option NodeEvent
step_of me (LineFrame e) = own_step me (asked_by e)
step_of me (MessageFrame from m) = Some (Deliver from m)
step_of me (ViewFrame v) = Some (Install v)
